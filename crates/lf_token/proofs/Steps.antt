use Rattle.std.proofs.Common.{◌≡◌, ℕ, ◌+◌, ◌<◌, List, length, drop, get_or, cond, refl, drop-cons, add-one}
use Rattle.lf_token.specs.Scan.{goes_over, tail_len}

-- one step of the scan of a name
pub tail_step : (cs : List ℕ) (n : ℕ) → n < length cs →
    tail_len (drop n cs) ≡ cond (goes_over (get_or cs n 0) (drop (n + 1) cs)) (tail_len (drop (n + 1) cs) + 1) 0
tail_step cs n l = rw (add-one, drop-cons cs n 0) refl
