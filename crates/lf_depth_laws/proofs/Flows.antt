-- Each row does to nesting what its symbol does: computed row by row.
use Rattle.std.proofs.Common.{◌≡◌, ℕ, List, [], Bool, true, false, ◌&&◌, nat_eq, refl}
use Rattle.lf_text.specs.declared.role.Role.{Role}
use Rattle.lf_text.specs.declared.role.Role.TheVariants.{Command}
use Rattle.lf_syntax.specs.declared.leaf.Ident.{Ident}
use Rattle.lf_syntax.specs.Symbol as symbol
use Rattle.lf_syntax.specs.Symbol.{Symbol, Tree}
use Rattle.lf_syntax.specs.Row.{Prod}
use Rattle.lf_syntax.specs.Build.{is_underscore}
use Rattle.lf_syntax.specs.Rows.{rows, group_names_rows_by}
use Rattle.lf_depth_laws.proofs.Sketch.{Sketch, sketch, step, valid, is_empty}
use Rattle.lf_depth_laws.proofs.Effects.{Kind, keeps, frees, ends_bracket, ends_block, tops, by_role, kind, entry, is_free, past_all, fine}
use Rattle.lf_depth_laws.proofs.Found.{InRows}

-- Nothing is left open that has opened.
abbrev pub ended : Sketch → Bool
ended s = is_empty s.saved && nat_eq s.waits 0

abbrev pub flows : Kind → Role → List Symbol → Bool
flows κ ρ body = valid (is_free κ) ρ (entry κ) && (fine (is_free κ) body (step ρ (entry κ)) && ended (past_all body (step ρ (entry κ))))

abbrev pub Flows : {V : Type 0} → Kind → Role → Prod V → Type 0
Flows keeps ρ p = flows keeps ρ p.body ≡ true
Flows frees ρ p = flows frees ρ p.body ≡ true
Flows ends_bracket ρ p = flows ends_bracket ρ p.body ≡ true
Flows ends_block ρ p = flows ends_block ρ p.body ≡ true
Flows tops ρ p = (ρ ≡ Command) × (fine true p.body (sketch 0 0 []) ≡ true)
Flows (by_role ρ') ρ p = (ρ ≡ ρ') × (p.body ≡ [])

group_names_flow : (b : Bool) (at : ℕ) (before : List Ident) (x : Ident) → InRows (Flows ends_bracket) (group_names_rows_by b at before x)
group_names_flow true at before x = (
  λ _. refl,
  (
    λ _. refl,
    (
      λ _. refl,
      (
        λ _. refl,
        (
          λ _. refl,
          (
            λ _. refl,
            (
              λ _. refl,
              (
                λ _. refl,
                (
                  λ _. refl,
                  (
                    λ _. refl,
                    (
                      λ _. refl,
                      (
                        λ _. refl,
                        (
                          λ _. refl,
                          (
                            λ _. refl,
                            (
                              λ _. refl,
                              (
                                λ _. refl,
                                (
                                  λ _. refl,
                                  (
                                    λ _. refl,
                                    (
                                      λ _ _. refl,
                                      (
                                        λ _. refl,
                                        (
                                          λ _. refl,
                                          tt,
                                        ),
                                      ),
                                    ),
                                  ),
                                ),
                              ),
                            ),
                          ),
                        ),
                      ),
                    ),
                  ),
                ),
              ),
            ),
          ),
        ),
      ),
    ),
  ),
)
group_names_flow false at before x = (
  λ _. refl,
  (
    λ _. refl,
    (
      λ _. refl,
      (
        λ _. refl,
        (
          λ _. refl,
          (
            λ _. refl,
            (
              λ _. refl,
              (
                λ _. refl,
                (
                  λ _. refl,
                  (
                    λ _. refl,
                    (
                      λ _. refl,
                      (
                        λ _. refl,
                        (
                          λ _. refl,
                          (
                            λ _. refl,
                            (
                              λ _. refl,
                              (
                                λ _. refl,
                                (
                                  λ _. refl,
                                  (
                                    λ _. refl,
                                    (
                                      λ _. refl,
                                      (
                                        λ _ _. refl,
                                        (
                                          λ _. refl,
                                          (λ _. refl, tt),
                                        ),
                                      ),
                                    ),
                                  ),
                                ),
                              ),
                            ),
                          ),
                        ),
                      ),
                    ),
                  ),
                ),
              ),
            ),
          ),
        ),
      ),
    ),
  ),
)

pub all_flow : (x : Symbol) → InRows (Flows (kind x)) (rows x)
all_flow symbol.command = (
  λ _. (refl, refl),
  (
    λ _. (refl, refl),
    (
      λ _. (refl, refl),
      (
        λ _. (refl, refl),
        (
          λ _. (refl, refl),
          (
            λ _. (refl, refl),
            (
              λ _. (refl, refl),
              (
                λ _. (refl, refl),
                (
                  λ _. (refl, refl),
                  (
                    λ _. (refl, refl),
                    (
                      λ _. (refl, refl),
                      (
                        λ _. (refl, refl),
                        (
                          λ _. (refl, refl),
                          (λ _. (refl, refl), (λ _. (refl, refl), (λ _. (refl, refl), tt))),
                        ),
                      ),
                    ),
                  ),
                ),
              ),
            ),
          ),
        ),
      ),
    ),
  ),
)
all_flow (symbol.token w) = (λ _. (refl, refl), tt)
all_flow symbol.arrow_token = (λ _ _. (refl, refl), tt)
all_flow symbol.number_token = (λ _. refl, tt)
all_flow symbol.any_name = (λ _. refl, tt)
all_flow symbol.one_part = (λ _. refl, tt)
all_flow symbol.binder_name = (λ _. refl, (λ _. refl, tt))
all_flow symbol.optional_name = (λ _. refl, tt)
all_flow symbol.any_names = (λ _. refl, tt)
all_flow symbol.one_parts = (λ _. refl, tt)
all_flow symbol.binder_names = (λ _. refl, (λ _. refl, tt))
all_flow symbol.level_names = (λ _. refl, tt)
all_flow symbol.more_level_names = (λ _. refl, (λ _. refl, tt))
all_flow symbol.binder = (λ _. refl, (λ _. refl, (λ _. refl, tt)))
all_flow symbol.parameters = (λ _. refl, (λ _. refl, (λ _. refl, tt)))
all_flow symbol.lambda_binder = (λ _. refl, (λ _. refl, (λ _. refl, (λ _. refl, (λ _. refl, tt)))))
all_flow symbol.lambda_binders = (λ _. refl, (λ _. refl, (λ _. refl, (λ _. refl, (λ _. refl, tt)))))
all_flow symbol.implicit_end = (λ _. refl, (λ _. refl, tt))
all_flow (symbol.bracket at) = (
  λ _. refl,
  (
    λ _. refl,
    (
      λ _. refl,
      (
        λ _. refl,
        (
          λ _. refl,
          (
            λ _. refl,
            (
              λ _. refl,
              (
                λ _. refl,
                (
                  λ _. refl,
                  (λ _. refl, (λ _. refl, (λ _. refl, (λ _. refl, (λ _. refl, (λ _. refl, (λ _. refl, (λ _. refl, tt)))))))),
                ),
              ),
            ),
          ),
        ),
      ),
    ),
  ),
)
all_flow (symbol.bracket_name at x) = (
  λ _. refl,
  (
    λ _. refl,
    (
      λ _. refl,
      (
        λ _. refl,
        (
          λ _. refl,
          (
            λ _. refl,
            (
              λ _. refl,
              (
                λ _. refl,
                (
                  λ _. refl,
                  (λ _. refl, (λ _. refl, (λ _. refl, (λ _. refl, (λ _. refl, (λ _. refl, (λ _. refl, (λ _. refl, (λ _. refl, (λ _ _. refl, tt)))))))))),
                ),
              ),
            ),
          ),
        ),
      ),
    ),
  ),
)
all_flow symbol.def_rest = (λ _. refl, (λ _. refl, tt))
all_flow symbol.def_body = (λ _. refl, (λ _. refl, tt))
all_flow symbol.type_option = (λ _. refl, tt)
all_flow symbol.where_option = (λ _. refl, tt)
all_flow symbol.ctors = (λ _. refl, tt)
all_flow symbol.helpers = (λ _. refl, tt)
all_flow symbol.helper = (λ _. refl, tt)
all_flow symbol.more_helpers = (λ _. refl, (λ _. refl, (λ _. refl, tt)))
all_flow symbol.fields_option = (λ _. refl, tt)
all_flow symbol.field = (λ _. refl, tt)
all_flow symbol.more_fields = (λ _. refl, (λ _. refl, (λ _. refl, tt)))
all_flow symbol.axioms_word = (λ _. refl, tt)
all_flow symbol.alternatives = (λ _. refl, tt)
all_flow symbol.pattern = (λ _. refl, (λ _. refl, (λ _. refl, tt)))
all_flow (symbol.pattern_rest x) = (λ _ _. refl, (λ _. refl, (λ _. refl, tt)))
all_flow symbol.numeral_one = (λ _. refl, tt)
all_flow (symbol.term least) = (
  λ _. refl,
  (
    λ _. refl,
    (
      λ _. refl,
      (
        λ _. refl,
        (
          λ _. refl,
          (
            λ _. refl,
            (
              λ _. refl,
              (
                λ _. refl,
                (
                  λ _. refl,
                  (λ _. refl, (λ _. refl, (λ _. refl, (λ _. refl, (λ _. refl, (λ _. refl, (λ _. refl, tt))))))),
                ),
              ),
            ),
          ),
        ),
      ),
    ),
  ),
)
all_flow symbol.arguments = (
  λ _. refl,
  (
    λ _. refl,
    (
      λ _. refl,
      (
        λ _. refl,
        (
          λ _. refl,
          (
            λ _. refl,
            (
              λ _. refl,
              (
                λ _. refl,
                (
                  λ _. refl,
                  (
                    λ _. refl,
                    (λ _. refl, (λ _. refl, (λ _. refl, (λ _. refl, (λ _. refl, tt))))),
                  ),
                ),
              ),
            ),
          ),
        ),
      ),
    ),
  ),
)
all_flow (symbol.operators least left) = (λ _ _. refl, tt)
all_flow (symbol.group at) = (
  λ _. refl,
  (
    λ _. refl,
    (
      λ _. refl,
      (
        λ _. refl,
        (
          λ _. refl,
          (
            λ _. refl,
            (
              λ _. refl,
              (
                λ _. refl,
                (
                  λ _. refl,
                  (
                    λ _. refl,
                    (λ _. refl, (λ _. refl, (λ _. refl, (λ _. refl, (λ _. refl, (λ _. refl, (λ _. refl, (λ _. refl, tt)))))))),
                  ),
                ),
              ),
            ),
          ),
        ),
      ),
    ),
  ),
)
all_flow (symbol.group_names at before x) = group_names_flow (is_underscore x.name) at before x
all_flow symbol.group_end = (λ _. refl, (λ _. refl, tt))
all_flow symbol.group_close = (λ _. refl, tt)
all_flow symbol.binder_end = (
  λ _ _. refl,
  (
    λ _. refl,
    (
      λ _. refl,
      (
        λ _. refl,
        (
          λ _. refl,
          (
            λ _. refl,
            (
              λ _. refl,
              (
                λ _. refl,
                (
                  λ _. refl,
                  (λ _. refl, (λ _. refl, (λ _. refl, (λ _. refl, (λ _. refl, (λ _. refl, (λ _. refl, tt))))))),
                ),
              ),
            ),
          ),
        ),
      ),
    ),
  ),
)
all_flow symbol.written_levels = (λ _. refl, tt)
all_flow symbol.more_levels = (λ _. refl, (λ _. refl, tt))
all_flow symbol.level = (λ _. refl, (λ _. refl, (λ _. refl, (λ _. refl, (λ _. refl, tt)))))
all_flow symbol.plus_option = (λ _ _. refl, tt)
all_flow symbol.level_atom = (λ _. refl, (λ _. refl, (λ _. refl, tt)))
all_flow symbol.level_atoms = (λ _. refl, (λ _. refl, (λ _. refl, tt)))
all_flow (symbol.max_rest x) = (λ _ _. refl, (λ _. refl, (λ _. refl, (λ _. refl, tt))))
all_flow (symbol.imax_rest x) = (λ _ _. refl, (λ _. refl, (λ _. refl, (λ _. refl, tt))))
all_flow symbol.block = (λ _. refl, tt)
all_flow symbol.more_items = (λ _. refl, (λ _. refl, (λ _. refl, tt)))
all_flow symbol.item = (
  λ _. refl,
  (
    λ _. refl,
    (
      λ _. refl,
      (
        λ _. refl,
        (
          λ _. refl,
          (
            λ _. refl,
            (
              λ _. refl,
              (
                λ _. refl,
                (
                  λ _. refl,
                  (
                    λ _. refl,
                    (λ _. refl, (λ _. refl, (λ _. refl, tt))),
                  ),
                ),
              ),
            ),
          ),
        ),
      ),
    ),
  ),
)
all_flow symbol.rw_rule = (
  λ _. refl,
  (
    λ _. refl,
    (
      λ _. refl,
      (
        λ _. refl,
        (
          λ _. refl,
          (
            λ _. refl,
            (
              λ _. refl,
              (
                λ _. refl,
                (
                  λ _. refl,
                  (
                    λ _. refl,
                    (λ _. refl, (λ _. refl, (λ _. refl, (λ _. refl, (λ _. refl, (λ _. refl, (λ _. refl, tt))))))),
                  ),
                ),
              ),
            ),
          ),
        ),
      ),
    ),
  ),
)
all_flow symbol.more_rules = (λ _. refl, (λ _. refl, tt))
