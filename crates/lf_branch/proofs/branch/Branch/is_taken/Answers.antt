use Rattle.std.proofs.Common.{◌≡◌, ◌∙◌, ◌≤◌, ◌-◌, ap, sym, subst, cond, length, take}
use Rattle.lf_core.specs.Same.{same_path}
use Rattle.lf_core.specs.Suffix.{suffix_of}
use Rattle.lf_checker.specs.View.{parent_of, last_of, there_of}
use Rattle.lf_env.proofs.Entries.{parent_of-take, last_of-place}
use Rattle.lf_branch.specs.Branch.{by_there, by_suffix, not_owned, verdict}
use Rattle.lf_branch.proofs.Places.{verdict_at, told_free, told_fault}
use Rattle.lf_branch.proofs.branch.Branch.is_taken.Goals as goal

pub returns-then-not-same_parts-clause-fault : goal.returns-then-not-same_parts-clause-fault
returns-then-not-same_parts-clause-fault c =
    let b = c.args.self.now in
    let n = c.args.name.now in
    let w = c.parts.result.now in
    let long : 1 ≤ length n = subst (λ m. 1 ≤ length m) c.parts.ensures.parts c.in-len1-up.len_at_least in
    let front : take (length w - 1) w ≡ parent_of n = parent_of-take w c.in-len1-up.len_at_least ∙ ap parent_of c.parts.ensures.parts in
    let same : c.same_parts.result ≡ same_path b.prefix (parent_of n) =
    c.same_parts.ensures.same ∙ ap (λ p. same_path p (take (length w - 1) w)) (c.parts-in-len1-up.ensures.parts ∙ ap (λ s. s.prefix) c.self.view_is)
    ∙ ap (same_path b.prefix) front in
    verdict_at b n long ∙ ap (λ t. cond t (by_suffix (suffix_of (last_of n)) (by_there (there_of b.view n))) not_owned) (sym same ∙ c.if-not-same_parts.true)

pub returns-in-Some-clause-fault : goal.returns-in-Some-clause-fault
returns-in-Some-clause-fault c =
    let b = c.args.self.now in
    let n = c.args.name.now in
    let w = c.parts.result.now in
    let long : 1 ≤ length n = subst (λ m. 1 ≤ length m) c.parts.ensures.parts c.in-len1-up.len_at_least in
    let front : take (length w - 1) w ≡ parent_of n = parent_of-take w c.in-len1-up.len_at_least ∙ ap parent_of c.parts.ensures.parts in
    let same : c.same_parts.result ≡ same_path b.prefix (parent_of n) =
    c.same_parts.ensures.same ∙ ap (λ p. same_path p (take (length w - 1) w)) (c.parts-in-len1-up.ensures.parts ∙ ap (λ s. s.prefix) c.self.view_is)
    ∙ ap (same_path b.prefix) front in
    let ends : c.as_str.result.now ≡ last_of n =
    c.as_str.ensures ∙ c.last-item.is ∙ last_of-place w c.last-item.result c.in-len1-up.len_at_least ∙ ap last_of c.parts.ensures.parts in
    verdict_at b n long ∙ ap (λ t. cond t (by_suffix (suffix_of (last_of n)) (by_there (there_of b.view n))) not_owned) (sym same ∙ c.if-not-same_parts.false)
    ∙ ap (λ s. by_suffix s (by_there (there_of b.view n))) (ap suffix_of (sym ends) ∙ sym c.of.ensures.exact ∙ c.in-Some.is)

pub returns-in-None-clause-taken : goal.returns-in-None-clause-taken
returns-in-None-clause-taken c =
    let b = c.args.self.now in
    let n = c.args.name.now in
    let w = c.parts.result.now in
    let long : 1 ≤ length n = subst (λ m. 1 ≤ length m) c.parts.ensures.parts c.in-len1-up.len_at_least in
    let front : take (length w - 1) w ≡ parent_of n = parent_of-take w c.in-len1-up.len_at_least ∙ ap parent_of c.parts.ensures.parts in
    let same : c.same_parts.result ≡ same_path b.prefix (parent_of n) =
    c.same_parts.ensures.same ∙ ap (λ p. same_path p (take (length w - 1) w)) (c.parts-in-len1-up.ensures.parts ∙ ap (λ s. s.prefix) c.self.view_is)
    ∙ ap (same_path b.prefix) front in
    let ends : c.as_str.result.now ≡ last_of n =
    c.as_str.ensures ∙ c.last-item.is ∙ last_of-place w c.last-item.result c.in-len1-up.len_at_least ∙ ap last_of c.parts.ensures.parts in
    told_free c.is_free.result (verdict b n) (by_there (there_of b.view n))
    (verdict_at b n long ∙ ap (λ t. cond t (by_suffix (suffix_of (last_of n)) (by_there (there_of b.view n))) not_owned) (sym same ∙ c.if-not-same_parts.false)
    ∙ ap (λ s. by_suffix s (by_there (there_of b.view n))) (ap suffix_of (sym ends) ∙ sym c.of.ensures.exact ∙ c.in-None.is))
    c.is_free.ensures.free

pub returns-in-None-clause-fault : goal.returns-in-None-clause-fault
returns-in-None-clause-fault c =
    let b = c.args.self.now in
    let n = c.args.name.now in
    let w = c.parts.result.now in
    let long : 1 ≤ length n = subst (λ m. 1 ≤ length m) c.parts.ensures.parts c.in-len1-up.len_at_least in
    let front : take (length w - 1) w ≡ parent_of n = parent_of-take w c.in-len1-up.len_at_least ∙ ap parent_of c.parts.ensures.parts in
    let same : c.same_parts.result ≡ same_path b.prefix (parent_of n) =
    c.same_parts.ensures.same ∙ ap (λ p. same_path p (take (length w - 1) w)) (c.parts-in-len1-up.ensures.parts ∙ ap (λ s. s.prefix) c.self.view_is)
    ∙ ap (same_path b.prefix) front in
    let ends : c.as_str.result.now ≡ last_of n =
    c.as_str.ensures ∙ c.last-item.is ∙ last_of-place w c.last-item.result c.in-len1-up.len_at_least ∙ ap last_of c.parts.ensures.parts in
    told_fault c.is_free.result (verdict b n) (by_there (there_of b.view n))
    (verdict_at b n long ∙ ap (λ t. cond t (by_suffix (suffix_of (last_of n)) (by_there (there_of b.view n))) not_owned) (sym same ∙ c.if-not-same_parts.false)
    ∙ ap (λ s. by_suffix s (by_there (there_of b.view n))) (ap suffix_of (sym ends) ∙ sym c.of.ensures.exact ∙ c.in-None.is))
    c.is_free.ensures.fault
