-- Layers in turn: their first, one more of them, tables made of them.
use Rattle.std.specs.Prelude.{◌≡◌, ℕ, suc, ◌+◌, ◌-◌, ◌≤◌, ◌<◌, ◌^◌, List, [], ◌∷◌, ◌++◌, length, take, drop, filter, None}
use Rattle.std.proofs.Common.{sym, ◌∙◌, ap, subst, arith, append_assoc, get_or, length-append}
use Rattle.std.specs.List.{IsDistinct}
use Rattle.std.proofs.lemmas.List.{take-append-drop, take_all, take_more}
use Rattle.std.proofs.lemmas.List.Sums.{fold-append}
use Rattle.indexmap.specs.IndexSet.{insert_key, insert_all}
use Rattle.lf_core.specs.declared.constant.ConstInfo.{ConstInfo}
use Rattle.lf_checker.specs.View.{Entry, base_position, placed_from, base_entries}
use Rattle.lf_env.specs.Names.{same_entry}
use Rattle.lf_env.specs.Answer.{DistinctNames}
use Rattle.lf_env.specs.Layer.{entries_of, AreSound}
use Rattle.lf_env.proofs.Entries.{
  entries_of-append,
  entries_of-both,
  filter-append,
  insert_all_distinct,
  IsDistinct-later,
  IsDistinct-base,
  IsDistinct-filter,
  IsDistinct-pushed,
  distinct_nil,
  length-base,
  length-filter,
  base_entries-append,
}

pub first_and_rest : (ls : List (List Entry)) (first : List Entry) → 1 ≤ length ls → first ≡ get_or ls 0 first
    → entries_of ls ≡ first ++ entries_of (take (length ls - 1) (drop 1 ls))
first_and_rest [] first some is = absurd (omega arith)
first_and_rest (l ∷ ls) first some is =
    let all : take (suc (length ls) - 1) ls ≡ ls = take_all (suc (length ls) - 1) ls (omega arith) in
    ap (λ x. x ++ entries_of ls) (sym is) ∙ ap (λ x. first ++ entries_of x) (sym all)

-- One more layer.
one_more : (ls : List (List Entry)) (i : ℕ) (item : List Entry) → i < length ls → item ≡ get_or ls i item → take (i + 1) ls ≡ take i ls ++ item ∷ []
one_more ls i item h is = take_more ls i item h ∙ ap (λ x. take i ls ++ x ∷ []) (sym is)

turn : (ls : List (List Entry)) (i : ℕ) (item : List Entry) → i < length ls → item ≡ get_or ls i item
    → entries_of (take (i + 1) ls) ≡ entries_of (take i ls) ++ item
turn ls i item h is = ap entries_of (one_more ls i item h is) ∙ entries_of-append (take i ls) item

pub before_turn : (p : Entry → _) (all more ls : List (List Entry)) (i : ℕ) (item kept : List Entry) → i < length ls → item ≡ get_or ls i item
    → kept ≡ filter p item → more ≡ all ++ kept ∷ [] → entries_of all ≡ filter p (entries_of (take i ls))
    → entries_of more ≡ filter p (entries_of (take (i + 1) ls))
before_turn p all more ls i item kept h is k m so_far =
    ap entries_of m ∙ entries_of-append all kept ∙ ap (λ l. l ++ kept) so_far ∙ ap (λ l. filter p (entries_of (take i ls)) ++ l) k
    ∙ sym (filter-append p (entries_of (take i ls)) item) ∙ ap (filter p) (sym (turn ls i item h is))

pub copy_turn : (ls : List (List Entry)) (i : ℕ) (item ks more : List Entry) → i < length ls → item ≡ get_or ls i item
    → more ≡ insert_all same_entry ks item → ks ≡ insert_all same_entry [] (entries_of (take i ls))
    → more ≡ insert_all same_entry [] (entries_of (take (i + 1) ls))
copy_turn ls i item ks more h is m so_far =
    m ∙ ap (λ l. insert_all same_entry l item) so_far ∙ sym (fold-append (insert_key same_entry) [] (entries_of (take i ls)) item)
    ∙ ap (insert_all same_entry []) (sym (turn ls i item h is))

-- A table of all layers and one more entry.
pub joined : (ls : List (List Entry)) (ks more : List Entry) (last : Entry) → ks ≡ insert_all same_entry [] (entries_of ls)
    → more ≡ insert_key same_entry ks last
    → IsDistinct same_entry (entries_of ls ++ last ∷ []) → more ≡ entries_of ls ++ last ∷ []
joined ls ks more last all m apart =
    m ∙ ap (λ l. insert_key same_entry l last) all ∙ sym (fold-append (insert_key same_entry) [] (entries_of ls) (last ∷ []))
    ∙ insert_all_distinct [] (entries_of ls ++ last ∷ []) apart

pub base_turn : (cs : List ConstInfo) (c : ConstInfo) (ks more : List Entry) → more ≡ insert_key same_entry ks (record { info = c; position = base_position })
    → ks ≡ insert_all same_entry [] (base_entries cs) → more ≡ insert_all same_entry [] (base_entries (cs ++ c ∷ []))
base_turn cs c ks more m so_far =
    let e : Entry = record { info = c; position = base_position } in
    m ∙ ap (λ l. insert_key same_entry l e) so_far ∙ sym (fold-append (insert_key same_entry) [] (base_entries cs) (e ∷ []))
    ∙ ap (insert_all same_entry []) (sym (base_entries-append cs c))

parts : (ls : List (List Entry)) (k : ℕ) → entries_of ls ≡ entries_of (take k ls) ++ entries_of (drop k ls)
parts ls k = ap entries_of (sym (take-append-drop k ls)) ∙ entries_of-both (take k ls) (drop k ls)

pub later_distinct : (ls : List (List Entry)) (k : ℕ) (e : Entry) → IsDistinct same_entry (entries_of ls ++ e ∷ [])
    → IsDistinct same_entry (entries_of (drop k ls) ++ e ∷ [])
later_distinct ls k e d =
    IsDistinct-later (entries_of (take k ls)) (entries_of (drop k ls) ++ e ∷ [])
    (subst (IsDistinct same_entry) (ap (λ l. l ++ e ∷ []) (parts ls k) ∙ append_assoc (entries_of (take k ls)) (entries_of (drop k ls)) (e ∷ [])) d)

pub replaced : (ls : List (List Entry)) (k : ℕ) (e : Entry) (all kept : List (List Entry)) (last : List Entry) → all ≡ kept ++ last ∷ [] → kept ≡ take k ls
    → last ≡ entries_of (drop k ls) ++ e ∷ [] → entries_of all ≡ entries_of ls ++ e ∷ []
replaced ls k e all kept last a b c =
    ap entries_of a ∙ entries_of-append kept last ∙ ap (λ l. entries_of l ++ last) b ∙ ap (λ l. entries_of (take k ls) ++ l) c
    ∙ sym (append_assoc (entries_of (take k ls)) (entries_of (drop k ls)) (e ∷ [])) ∙ ap (λ l. l ++ e ∷ []) (sym (parts ls k))

-- ---- What views keep

pub base_sound : (cs : List ConstInfo) (es : List Entry) (most : ℕ) → DistinctNames cs → es ≡ base_entries cs → most ≡ length cs → most < 2 ^ 64
    → AreSound es most
base_sound cs es most d is count fits =
    let long : length es ≡ length cs = ap length is ∙ length-base cs in
    record { distinct = subst (IsDistinct same_entry) (sym is) (IsDistinct-base cs d); bounded = omega arith; fits = fits }

pub empty_sound : (es : List Entry) (most : ℕ) → es ≡ [] → AreSound es 0
empty_sound es most is = record {
  distinct = subst (IsDistinct same_entry) (sym is) distinct_nil;
  bounded = let count : length es ≡ 0 =
      ap length is in omega arith;
  fits = omega arith;
}

pub filter_sound : (p : Entry → _) (es own : List Entry) (most : ℕ) → AreSound es most → own ≡ filter p es → AreSound own most
filter_sound p es own most s is =
    let long : length own ≡ length (filter p es) = ap length is in
    let less = length-filter p es in
    let bound = s.bounded in
    record { distinct = subst (IsDistinct same_entry) (sym is) (IsDistinct-filter p es s.distinct); bounded = omega arith; fits = s.fits }

pub push_sound : (es own : List Entry) (e : Entry) (most more : ℕ) → AreSound es most → None ≡ placed_from 0 es e.info.name → own ≡ es ++ e ∷ []
    → more ≡ most + 1 → more < 2 ^ 64
    → AreSound own more
push_sound es own e most more s free is count fits =
    let long : length own ≡ length es + 1 = ap length is ∙ length-append es (e ∷ []) in
    let bound = s.bounded in
    record { distinct = subst (IsDistinct same_entry) (sym is) (IsDistinct-pushed es e s.distinct free); bounded = omega arith; fits = fits }
