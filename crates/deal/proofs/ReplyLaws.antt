-- What the four numbers of a reply say of its sheet: with number 0 the results hold its lines, at most 32 of them, with amounts that add up in 64
-- bits; a refusal's number is not 0, nor 14 where there is room for 32 lines. No axioms.
use mathlib.Core.List.{List, ◌++◌}
use mathlib.Core.Logic.{⊎_elim}
use mathlib.Core.Path.{◌≡◌, refl, sym, ap, ◌∙◌}
use Prim.Native.Nat.{ℕ, ◌+◌, ◌*◌, ◌≤◌, ◌<◌}
use native.Mathlib.Nat.{eq-or-lt_of_le, mul-le-mul}
use native.Mathlib.Omega.{arith}
use lib.ListN.{length, get_or, drop}
use Rattle.std.specs.Prelude.{Err}
use Rattle.numbers.proofs.RoundingLaws.{rounded_up_at_most}
use Rattle.weights.specs.ApproachFloorCap.{weight}
use Rattle.weights.proofs.WeightLaws.{weight_at_most}
use Rattle.limits.specs.SheetSize.{tranches_most, line_size, result_room}
use Rattle.judgement.specs.DealSheet.{tranche_count, held, needed}
use Rattle.deal.specs.Lines.{terms, tranche, risk_weighted_amount, capital, line, line_words}
use Rattle.deal.specs.Refusals.{verdict}
use Rattle.deal.specs.Results.{Reply, reply_of, reply_for, reply_to, lines, results_after}
use Rattle.judgement.specs.declared.Refusal.{Refusal as Declared}
use Rattle.judgement.specs.Verdicts.{Verdict, Sound, Faulty, refusal_of}
use Rattle.judgement.proofs.JudgedLaws.{good_judged}
use Rattle.deal.proofs.JudgedLaws.{accepted_judged, refusal_numbers, by_room_alone}
use Rattle.deal.proofs.LineLaws.{results_accepted, results_line}
use Rattle.judgement.proofs.SheetLimits.{tranches_counted, tranches_within, good_tranche}

-- ---- number 0 means accepted

number_zero_sound : (s : List ℕ) (room : ℕ) → (reply_to s room).number ≡ 0 → verdict s room ≡ Sound
unfolding reply_to
number_zero_sound s room z = by_cases (verdict s room) refl z
  where
    by_cases : (v : Verdict) → verdict s room ≡ v → (reply_for s v).number ≡ 0 → v ≡ Sound
    by_cases Sound e z = refl
    by_cases (Faulty r) e z = absurd (refusal_numbers s room r e z)

reply_count : (s : List ℕ) (room : ℕ) → (reply_to s room).number ≡ 0 → (reply_to s room).count ≡ tranche_count s
unfolding reply_to
reply_count s room z = ap (λ (v : Verdict). (reply_for s v).count) (number_zero_sound s room z)

pub reply_count_within : (s : List ℕ) (room : ℕ) → (reply_to s room).number ≡ 0 → (1 ≤ (reply_to s room).count) × ((reply_to s room).count ≤ tranches_most)
reply_count_within s room z =
    let within = tranches_within s (tranches_counted s (accepted_judged s room (number_zero_sound s room z))) in
    (omega (arith, reply_count s room z), omega (arith, reply_count s room z))

-- a refusal, whose count is 0, has another number
pub refused_number : (s : List ℕ) (room : ℕ) (r : Declared) → reply_of (Err r) ≡ reply_to s room → (refusal_of r).number ≡ 0 → ⊥
refused_number s room r same z =
    let number = ap (λ (a : Reply). a.number) same in
    let count = ap (λ (a : Reply). a.count) same in
    omega (arith, reply_count_within s room (sym number ∙ z))

-- results with room for the most lines are never too short: no 14
pub room_enough : (s : List ℕ) (room : ℕ) → result_room ≤ room → (reply_to s room).number ≡ 14 → ⊥
unfolding reply_to
room_enough s room enough fourteen = by_cases (verdict s room) refl fourteen
  where
    by_cases : (v : Verdict) → verdict s room ≡ v → (reply_for s v).number ≡ 14 → ⊥
    by_cases Sound e z = omega arith
    by_cases (Faulty r) e z =
        let w = by_room_alone s room r e z in
        omega (arith, w.short, tranches_within s (tranches_counted s (good_judged s (needed s) w.words.good)))

-- ---- the results

pub reply_results :
    (s old : List ℕ) → (reply_to s (length old)).number ≡ 0 →
    results_after s old ≡ lines s (reply_to s (length old)).count ++ drop (line_size * (reply_to s (length old)).count) old
reply_results s old z = rw (reply_count s (length old) z) (results_accepted s old (number_zero_sound s (length old) z))

-- 10^13 × 125,000 / 10,000 and 10^13 × 125,000 × 8 / 10^6

rwa_at_most : (h w : ℕ) → h ≤ 10000000000000 → w ≤ 125000 → risk_weighted_amount h w ≤ 125000000000000
rwa_at_most h w a b = rounded_up_at_most (h * w) 10000 125000000000000 (omega (arith, mul-le-mul a b))

capital_at_most : (h w : ℕ) → h ≤ 10000000000000 → w ≤ 125000 → capital h w ≤ 125000000000000
capital_at_most h w a b = rounded_up_at_most (h * w * 8) 1000000 125000000000000 (omega (arith, mul-le-mul a b))

held_at_most : (s : List ℕ) (room i : ℕ) → (reply_to s room).number ≡ 0 → i < (reply_to s room).count → held s i ≤ 10000000000000
held_at_most s room i z l =
    let good = good_tranche s i (accepted_judged s room (number_zero_sound s room z)) (omega (arith, reply_count s room z)) in
    omega (arith, good.held_most, good.amount_at_most)

-- the fifth and the sixth word of a line
line_amounts :
    (s : List ℕ) (room i : ℕ) → (reply_to s room).number ≡ 0 → i < (reply_to s room).count →
    (get_or (line_words (tranche s i) (terms s)) 4 0 ≤ 125000000000000) × (get_or (line_words (tranche s i) (terms s)) 5 0 ≤ 125000000000000)
unfolding line_words line tranche
line_amounts s room i z l =
    let small = held_at_most s room i z l in
    let most = weight_at_most (tranche s i) (terms s) in
    let w = (weight (tranche s i) (terms s)).high in
    (rwa_at_most (held s i) w small most, capital_at_most (held s i) w small most)

pub reply_amounts :
    (s old : List ℕ) (i c : ℕ) → (reply_to s (length old)).number ≡ 0 → i < (reply_to s (length old)).count → 4 ≤ c → c < 6 →
    get_or (results_after s old) (line_size * i + c) 0 ≤ 125000000000000
reply_amounts s old i c z l least most =
    let amounts = line_amounts s (length old) i z l in
    rw (results_line s old i c (number_zero_sound s (length old) z) (omega (arith, reply_count s (length old) z)) (omega arith))
    (⊎_elim
    (λ e. rw (← e) amounts.0)
    (λ above.
    let last : 5 ≡ c = omega arith in
    rw (← last) amounts.1)
    (eq-or-lt_of_le least))
