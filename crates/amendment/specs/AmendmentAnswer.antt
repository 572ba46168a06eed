-- The answer of `amend_rows`: the verdict on the amendment that it is, and the pool's sums after it, which a refused amendment leaves as they were.
use Rattle.std.specs.Prelude.{Result, Ok, Err}
use Rattle.charge.specs.declared.Sums.{Sums}
use Rattle.judgement.specs.Verdicts.{Verdict, Sound, Faulty, refusal_of}
use Rattle.judgement.specs.declared.Refusal.{Refusal}

abbrev pub verdict_on : Result Sums Refusal → Verdict
verdict_on (Ok _) = Sound
verdict_on (Err r) = Faulty (refusal_of r)

abbrev pub sums_after : Sums → Result Sums Refusal → Sums
sums_after before (Ok after) = after
sums_after before (Err _) = before
