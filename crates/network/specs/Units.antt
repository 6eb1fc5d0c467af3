-- The unit's constants: how many there are at most, how large they may be, and the scale of weights: "Weight 1 means a standard deviation of 10 mm (1,000 units); 1 mm is weight 100" (document 01, "Units and stations"). A weight w is a standard deviation of
-- 1,000/√w units: w times its square is 1,000². Assumes nothing.
use Rattle.std.specs.Prelude.{ℕ, ◌+◌, ◌*◌, ◌/◌, ◌^◌, ◌<◌, ◌≤◌, ◌≡◌, refl}
use Rattle.std.proofs.Common.{mul-le-mul, div-le_self, arith}
use Rattle.std.proofs.Math.Nat.{div-eq_of_lt, div-eq_of_lt-le}

-- ════ how many: "A lent list of 1 to 32 stations", E, N and U of each; "Unknowns …: 1 to 48 of them"; "256 places, numbered 1 to 256"
abbrev pub most_stations : ℕ
most_stations = 32

abbrev pub most_components : ℕ
most_components = 96

abbrev pub most_unknowns : ℕ
most_unknowns = 48

abbrev pub place_count : ℕ
place_count = 256

-- ════ how large: "Provisional coordinates lie within ±500,000,000", and so must the observed coordinates of a position (document 02, request 5); "Each observed component lies within ±1,000,000,000", and so must the reduced U difference (document 02, request 4); "Misclosure …, each component within ±100,000"
abbrev pub most_coordinate : ℕ
most_coordinate = 500000000

abbrev pub most_observed : ℕ
most_observed = 1000000000

abbrev pub most_misclosure : ℕ
most_misclosure = 100000

-- document 02, request 1: "Heights are 0 to 300,000", of an instrument or a target above its mark; request 4: "A baseline carries a height at each end, 0 to 300,000"
abbrev pub most_height_above_mark : ℕ
most_height_above_mark = 300000

-- ════ the scale of weights
-- the whole number nearest to 1,000² over the square of a standard deviation s in units, and 0 of s = 0
unfoldable pub weight_of : ℕ → ℕ
weight_of s = (2 * 1000 ^ 2 + s * s) / (2 * (s * s))

-- where a whole weight has that standard deviation, it is this one
pub weight_exact : (w s : ℕ) → 0 < s → w * (s * s) ≡ 1000 ^ 2 → weight_of s ≡ w
unfolding weight_of
weight_exact w s h e =
    let p : 1 ≤ s * s = mul-le-mul h h in
    div-eq_of_lt-le (2 * (s * s)) (omega arith) (omega arith)

pub weight_at_ten_millimetres : weight_of 1000 ≡ 1
weight_at_ten_millimetres = weight_exact 1 1000 (omega arith) refl

pub weight_at_millimetre : weight_of 100 ≡ 100
weight_at_millimetre = weight_exact 100 100 (omega arith) refl

-- ════ what the code goes by: none of 0 and beyond twice the standard deviation of weight 1, and nothing large between
pub weight_beyond : (s : ℕ) → 2000 < s → weight_of s ≡ 0
unfolding weight_of
weight_beyond s h =
    let g : 2000 ≤ s = omega arith in
    let p : 2000 * 2000 ≤ s * s = mul-le-mul g g in
    div-eq_of_lt (omega arith)

pub record Squared (s : ℕ) : Type 0 where
  pub positive : 1 ≤ s * s
  pub small : s * s ≤ 4000000
  pub weight : (2000000 + s * s) / (2 * (s * s)) ≤ 6000000

pub squared : (s : ℕ) → 0 < s → s ≤ 2000 → Squared s
squared s p h =
    let q : s * s ≤ 2000 * 2000 = mul-le-mul h h in
    record { positive = mul-le-mul p p; small = q; weight = omega (arith, div-le_self (2000000 + s * s) (2 * (s * s))) }
