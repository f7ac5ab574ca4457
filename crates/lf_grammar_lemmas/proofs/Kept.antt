-- A step of the machine keeps its stack one that can be finished.
use Rattle.std.proofs.Common.{◌≡◌, ℕ, List, Bool, true, false, Some, refl}
use Rattle.lf_syntax.specs.declared.leaf.Ident.{Ident}
use Rattle.lf_syntax.specs.Piece.{Class}
use Rattle.lf_syntax.specs.Symbol.{
  Symbol,
  Tree,
  any_name,
  any_names,
  arguments,
  arrow_token,
  binder,
  binder_end,
  binder_name,
  binder_names,
  block,
  command,
  ctors,
  def_rest,
  group,
  group_close,
  group_end,
  group_names,
  helper,
  helpers,
  imax_rest,
  implicit_end,
  item,
  lambda_binder,
  lambda_binders,
  level,
  level_atom,
  level_atoms,
  level_names,
  max_rest,
  more_helpers,
  more_items,
  more_level_names,
  more_levels,
  more_rules,
  number_token,
  one_part,
  one_parts,
  operators,
  optional_name,
  parameters,
  plus_option,
  rw_rule,
  term,
  token,
  type_option,
  where_option,
  written_levels,
  alternatives,
  axioms_word,
  bracket,
  bracket_name,
  def_body,
  field,
  fields_option,
  more_fields,
  numeral_one,
  pattern,
  pattern_rest,
}
use Rattle.lf_syntax.specs.Row.{Row, Prod, first_row}
use Rattle.lf_syntax.specs.Build.{is_underscore}
use Rattle.lf_syntax.specs.Rows.{rows, group_names_rows_by}
use Rattle.lf_grammar_lemmas.proofs.Follow.{Asks, asks, serves}
use Rattle.lf_grammar_lemmas.proofs.Found.{InRows, found}

abbrev pub AllServe : {V : Type 0} → Asks → List (Row V) → Type 0
AllServe {V} a rs = InRows (λ (p : Prod V). serves a p.body ≡ true) rs

group_names_serve : (b : Bool) (at : ℕ) (before : List Ident) (x : Ident) → AllServe (asks (group_names at before x)) (group_names_rows_by b at before x)
group_names_serve true at before x = (
  λ _. refl,
  (
    λ _.
        refl,
    (
      λ _. refl,
      (
        λ _. refl,
        (
          λ _. refl,
          (
            λ _.
                refl,
            (
              λ _. refl,
              (
                λ _. refl,
                (
                  λ _. refl,
                  (
                    λ _.
                        refl,
                    (
                      λ _. refl,
                      (
                        λ _. refl,
                        (
                          λ _. refl,
                          (
                            λ _.
                                refl,
                            (λ _. refl, (λ _. refl, (λ _. refl, (λ _. refl, (λ _ _. refl, (λ _. refl, (λ _. refl, tt))))))),
                          ),
                        ),
                      ),
                    ),
                  ),
                ),
              ),
            ),
          ),
        ),
      ),
    ),
  ),
)
group_names_serve false at before x = (
  λ _. refl,
  (
    λ _.
        refl,
    (
      λ _. refl,
      (
        λ _. refl,
        (
          λ _. refl,
          (
            λ _.
                refl,
            (
              λ _. refl,
              (
                λ _. refl,
                (
                  λ _. refl,
                  (
                    λ _.
                        refl,
                    (
                      λ _. refl,
                      (
                        λ _. refl,
                        (
                          λ _. refl,
                          (
                            λ _.
                                refl,
                            (λ _. refl, (λ _. refl, (λ _. refl, (λ _. refl, (λ _. refl, (λ _ _. refl, (λ _. refl, (λ _. refl, tt)))))))),
                          ),
                        ),
                      ),
                    ),
                  ),
                ),
              ),
            ),
          ),
        ),
      ),
    ),
  ),
)

all_serve : (x : Symbol) → AllServe (asks x) (rows x)
all_serve command = (
  λ _. refl,
  (
    λ _. refl,
    (
      λ _. refl,
      (
        λ _. refl,
        (
          λ _. refl,
          (
            λ _. refl,
            (
              λ _. refl,
              (λ _. refl, (λ _. refl, (λ _. refl, (λ _. refl, (λ _. refl, (λ _. refl, (λ _. refl, (λ _. refl, (λ _. refl, tt))))))))),
            ),
          ),
        ),
      ),
    ),
  ),
)
all_serve (token w) = (λ _. refl, tt)
all_serve arrow_token = (λ _ _. refl, tt)
all_serve number_token = (λ _. refl, tt)
all_serve any_name = (λ _. refl, tt)
all_serve one_part = (λ _. refl, tt)
all_serve binder_name = (λ _. refl, (λ _. refl, tt))
all_serve optional_name = (λ _. refl, tt)
all_serve any_names = (λ _. refl, tt)
all_serve one_parts = (λ _. refl, tt)
all_serve binder_names = (λ _. refl, (λ _. refl, tt))
all_serve level_names = (λ _. refl, tt)
all_serve more_level_names = (λ _. refl, (λ _. refl, tt))
all_serve binder = (λ _. refl, (λ _. refl, (λ _. refl, tt)))
all_serve parameters = (λ _. refl, (λ _. refl, (λ _. refl, tt)))
all_serve lambda_binder = (λ _. refl, (λ _. refl, (λ _. refl, (λ _. refl, (λ _. refl, tt)))))
all_serve lambda_binders = (λ _. refl, (λ _. refl, (λ _. refl, (λ _. refl, (λ _. refl, tt)))))
all_serve implicit_end = (λ _. refl, (λ _. refl, tt))
all_serve (bracket at) = (
  λ _. refl,
  (
    λ _. refl,
    (
      λ _.
          refl,
      (
        λ _. refl,
        (
          λ _. refl,
          (
            λ _. refl,
            (
              λ _.
                  refl,
              (λ _. refl, (λ _. refl, (λ _. refl, (λ _. refl, (λ _. refl, (λ _. refl, (λ _. refl, (λ _. refl, (λ _. refl, (λ _. refl, tt)))))))))),
            ),
          ),
        ),
      ),
    ),
  ),
)
all_serve (bracket_name at x) = (
  λ _. refl,
  (
    λ _. refl,
    (
      λ _. refl,
      (
        λ _. refl,
        (
          λ _. refl,
          (
            λ _. refl,
            (
              λ _. refl,
              (
                λ _. refl,
                (
                  λ _. refl,
                  (
                    λ _. refl,
                    (λ _. refl, (λ _. refl, (λ _. refl, (λ _. refl, (λ _. refl, (λ _. refl, (λ _. refl, (λ _. refl, (λ _ _. refl, tt))))))))),
                  ),
                ),
              ),
            ),
          ),
        ),
      ),
    ),
  ),
)
all_serve def_rest = (λ _. refl, (λ _. refl, tt))
all_serve def_body = (λ _. refl, (λ _. refl, tt))
all_serve type_option = (λ _. refl, tt)
all_serve where_option = (λ _. refl, tt)
all_serve ctors = (λ _. refl, tt)
all_serve helpers = (λ _. refl, tt)
all_serve helper = (λ _. refl, tt)
all_serve more_helpers = (λ _. refl, (λ _. refl, (λ _. refl, tt)))
all_serve fields_option = (λ _. refl, tt)
all_serve field = (λ _. refl, tt)
all_serve more_fields = (λ _. refl, (λ _. refl, (λ _. refl, tt)))
all_serve axioms_word = (λ _. refl, tt)
all_serve alternatives = (λ _. refl, tt)
all_serve pattern = (λ _. refl, (λ _. refl, (λ _. refl, tt)))
all_serve (pattern_rest x) = (λ _ _. refl, (λ _. refl, (λ _. refl, tt)))
all_serve numeral_one = (λ _. refl, tt)
all_serve (term l) = (
  λ _. refl,
  (
    λ _. refl,
    (
      λ _.
          refl,
      (
        λ _. refl,
        (
          λ _. refl,
          (
            λ _. refl,
            (
              λ _.
                  refl,
              (λ _. refl, (λ _. refl, (λ _. refl, (λ _. refl, (λ _. refl, (λ _. refl, (λ _. refl, (λ _. refl, (λ _. refl, tt))))))))),
            ),
          ),
        ),
      ),
    ),
  ),
)
all_serve arguments = (
  λ _. refl,
  (
    λ _. refl,
    (
      λ _.
          refl,
      (
        λ _. refl,
        (
          λ _. refl,
          (
            λ _. refl,
            (
              λ _.
                  refl,
              (λ _. refl, (λ _. refl, (λ _. refl, (λ _. refl, (λ _. refl, (λ _. refl, (λ _. refl, (λ _. refl, tt)))))))),
            ),
          ),
        ),
      ),
    ),
  ),
)
all_serve (operators l m) = (λ _ _. refl, tt)
all_serve (group at) = (
  λ _. refl,
  (
    λ _. refl,
    (
      λ _.
          refl,
      (
        λ _. refl,
        (
          λ _. refl,
          (
            λ _. refl,
            (
              λ _.
                  refl,
              (
                λ _. refl,
                (
                  λ _. refl,
                  (
                    λ _. refl,
                    (
                      λ _.
                          refl,
                      (λ _. refl, (λ _. refl, (λ _. refl, (λ _. refl, (λ _. refl, (λ _. refl, (λ _. refl, tt))))))),
                    ),
                  ),
                ),
              ),
            ),
          ),
        ),
      ),
    ),
  ),
)
all_serve group_end = (λ _. refl, (λ _. refl, tt))
all_serve group_close = (λ _. refl, tt)
all_serve binder_end = (
  λ _ _. refl,
  (
    λ _. refl,
    (
      λ _.
          refl,
      (
        λ _. refl,
        (
          λ _. refl,
          (
            λ _. refl,
            (
              λ _.
                  refl,
              (λ _. refl, (λ _. refl, (λ _. refl, (λ _. refl, (λ _. refl, (λ _. refl, (λ _. refl, (λ _. refl, (λ _. refl, tt))))))))),
            ),
          ),
        ),
      ),
    ),
  ),
)
all_serve written_levels = (λ _. refl, tt)
all_serve more_levels = (λ _. refl, (λ _. refl, tt))
all_serve level = (λ _. refl, (λ _. refl, (λ _. refl, (λ _. refl, (λ _. refl, tt)))))
all_serve plus_option = (λ _ _. refl, tt)
all_serve level_atom = (λ _. refl, (λ _. refl, (λ _. refl, tt)))
all_serve level_atoms = (λ _. refl, (λ _. refl, (λ _. refl, tt)))
all_serve (max_rest x) = (λ _ _. refl, (λ _. refl, (λ _. refl, (λ _. refl, tt))))
all_serve (imax_rest x) = (λ _ _. refl, (λ _. refl, (λ _. refl, (λ _. refl, tt))))
all_serve block = (λ _. refl, tt)
all_serve more_items = (λ _. refl, (λ _. refl, (λ _. refl, tt)))
all_serve item = (
  λ _. refl,
  (
    λ _. refl,
    (
      λ _. refl,
      (λ _. refl, (λ _. refl, (λ _. refl, (λ _. refl, (λ _. refl, (λ _. refl, (λ _. refl, (λ _. refl, (λ _. refl, (λ _. refl, tt)))))))))),
    ),
  ),
)
all_serve rw_rule = (
  λ _. refl,
  (
    λ _. refl,
    (
      λ _. refl,
      (
        λ _. refl,
        (
          λ _. refl,
          (
            λ _. refl,
            (
              λ _. refl,
              (λ _. refl, (λ _. refl, (λ _. refl, (λ _. refl, (λ _. refl, (λ _. refl, (λ _. refl, (λ _. refl, (λ _. refl, (λ _. refl, tt)))))))))),
            ),
          ),
        ),
      ),
    ),
  ),
)
all_serve more_rules = (λ _. refl, (λ _. refl, tt))
all_serve (group_names at before x) = group_names_serve (is_underscore x.name) at before x

pub body_serves : (x : Symbol) (c : Class) (at : ℕ) (p : Prod (Tree x)) → first_row (rows x) c at ≡ Some p → serves (asks x) p.body ≡ true
body_serves x c at p e = found (λ (q : Prod (Tree x)). serves (asks x) q.body ≡ true) (rows x) c at p (all_serve x) e
