-- `judge_thickness`: as long as the loop runs, none of the tranches passed is too thin; the first that is decides. No
-- axioms.
use mathlib.Core.Path.{◌≡◌}
use Rattle.judgement.specs.Refusals.{first_of}
use Rattle.deal.specs.Refusals.{thin_verdict}
use Rattle.judgement.specs.Verdicts.{Sound}
use Rattle.deal.proofs.prepared.PreparedDeal.judge_thickness.Given as goal

abbrev pub invariant-loop-i : goal.invariant-loop-i
invariant-loop-i l = first_of (λ i. thin_verdict l.self.sheet.now.words.now i) l.i ≡ Sound
