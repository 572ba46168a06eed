-- 01, "Points and pool charge" (d374 paragraphs 79 and 80 for the base charge, 81 to 83 for delinquency and unknown status), and 02, S-5 (source document 000, paragraph 14,
-- and d374 paragraph 47 for mixed pools): the pool charge, from the pool's sums; and the average risk weight of "Which approach, then floor, then cap". Shares and charges
-- are counted in millionths, amounts in whole currency units, risk weights in hundredths of a percent. 02, S-9: "Inside, all weights and S-7's weighted sums are kept in hundredths, and charge
-- and cap come out as before.": 01's figures for weights in percent, 800 and 100, are 8 and 1 for weights in hundredths; that they come to the same is `same_base_charge` and `same_average`
-- (proofs/PoolLaws.antt).
use Rattle.std.specs.Prelude.{Bool, cond, ℕ, ◌+◌, ◌*◌, ◌-◌, leb}
use Rattle.numbers.specs.Rounding.{rounded_up}
use Rattle.irba.specs.declared.IrbFigures.{IrbFigures}
use Rattle.charge.specs.declared.Sums.{Sums}
use Rattle.charge.specs.declared.Totals.{Totals}

-- "the base charge is 800 × (sum of exposure × risk weight) / (sum of exposure), rounded up", over some rows: 800 where weights are in percent, and so 8 where they are in hundredths
abbrev pub base_charge : Totals → ℕ
base_charge t = rounded_up (8 * t.weighted) t.exposure

-- "The late share W is delinquent nominal × 10^6 / nominal, rounded up", over the rows with known status
abbrev pub late_share : Sums → ℕ
late_share q = rounded_up (q.late * 1000000) q.known.nominal

-- "((10^6 − W) × base + 500,000 × W) / 10^6, rounded up", with base over the rows with known status
unfoldable pub known_charge : Sums → ℕ
known_charge q = rounded_up ((1000000 - late_share q) * base_charge q.known + 500000 * late_share q) 1000000

abbrev pub unknown_exposure : Sums → ℕ
unknown_exposure q = q.all.exposure - q.known.exposure

-- "Unknown rows up to and including 5% of all exposure"
abbrev pub mostly_known : Sums → Bool
mostly_known q = leb (20 * unknown_exposure q) q.all.exposure

-- "charge is (known exposure × charge + unknown exposure × 10^6) / all exposure, rounded up. Above 5%: the charge is reported as 1,000,000"
unfoldable pub pool_charge : Sums → ℕ
pool_charge q =
    cond (mostly_known q)
    (rounded_up (q.known.exposure * known_charge q + unknown_exposure q * 1000000) q.all.exposure)
    1000000

-- 02, S-5, approach 3: "the charge is share × IRB charge + rest × base charge, rounded up, with base over all rows"; "late payers play no part": it reads the totals over all
-- rows alone
unfoldable pub mixed_charge : IrbFigures → Totals → ℕ
mixed_charge f all = rounded_up (f.share * f.charge + (1000000 - f.share) * base_charge all) 1000000

-- the cap: "100 × (sum of exposure × risk weight) / (sum of exposure) over all rows, rounded up": 100 where weights are in percent, and so 1 where they are in hundredths
abbrev pub pool_average : Sums → ℕ
pool_average q = rounded_up q.all.weighted q.all.exposure
