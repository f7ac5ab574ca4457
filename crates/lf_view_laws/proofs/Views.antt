-- The law on fuller views.
use Rattle.lf_view_laws.specs.Fuller.{FullerViews}
use Rattle.lf_view_laws.proofs.Extending.{extends}
use Rattle.lf_view_laws.proofs.Cuts.{fuller_at, fuller_real_at}
use Rattle.lf_view_laws.proofs.Calls.{fuller_base, fuller_pushed, fuller_opened, fuller_answered, fuller_answered_later}
use Rattle.lf_view_laws.proofs.Joining.{fuller_joined, fuller_joined_later}

pub fuller_views : FullerViews
fuller_views = record {
  extends = extends;
  at = fuller_at;
  real_at = fuller_real_at;
  base = fuller_base;
  push = fuller_pushed;
  open_both = fuller_opened;
  join = fuller_joined;
  join_later = fuller_joined_later;
  answer = fuller_answered;
  answer_later = fuller_answered_later;
}
