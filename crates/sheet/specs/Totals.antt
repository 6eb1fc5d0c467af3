-- Counts of the records, T and D: what the code's loops keep. Assumes nothing.
use Rattle.std.specs.Prelude.{ℕ, zero, suc, ◌+◌, ◌*◌, ◌<◌, ◌≤◌, ◌^◌, ◌≡◌, refl, Bool, true, false, cond, ◌&&◌, ◌||◌, List, eqb, get_or, length, ℤ, pos, nat_abs, ◌+ℤ◌, ◌-ℤ◌, ◌*ℤ◌}
use Rattle.std.proofs.Common.{sym, ap, ap₂, ◌∙◌, arith, le_trans, lit≤, SFits, of_z, to_z}
use Rattle.std.specs.Int.{w64}
use Rattle.integers.specs.Bounds.{bounds, absle}
use Rattle.integers.specs.Sums.{sum, sum_zero, sum-+1, sum-ext, sum_n, sum_n_zero, sum_n-+1, sum_n-ext, sum_n-const, abs-sum-const, abs-sum-sum-const}
use Rattle.integers.specs.Tables.{get_d_tabulate, Within}
use Rattle.words.specs.Signed.{eq_z}
use Rattle.network.specs.Stations.{unknown_in, unknown, unknown_count, station_at, coordinates, unknown_table}
use Rattle.network.specs.StationLaws.{unknown-at}
use Rattle.network.specs.Records.{record_at, acts, from_of, to_of, weights, observations, acts_of, is_empty}
use Rattle.network.specs.RecordLaws.{observations_few}
use Rattle.lists.specs.Stored.{stored, back, fits_by}
use Rattle.network.specs.declared.Kind.{Kind}
use Rattle.network.specs.declared.Kind.TheVariants.{Known, Free, Height}
use Rattle.network.specs.declared.Station.{Station}
use Rattle.network.specs.declared.Network.{Network}
use Rattle.network.specs.declared.Place.{Place}
use Rattle.network.specs.declared.Record.{Record}
use Rattle.normals.specs.Formulas.{P}
use Rattle.normals.specs.Acting.{acting_only}
use Rattle.normals.specs.ByRules.{ByRules, record_sound}
use Rattle.sheet.specs.declared.totals.Counts.{Counts}
use Rattle.residuals.specs.Residuals.{residual, unknown_at_end, in_adjustment, weighted_squares, share_t, T, share_d, D, is_record, record_count}
use Rattle.sheet.specs.Sheet.{line_length, room}
use Rattle.residuals.specs.Components.{residual_in, residuals_in, residual_in_lem, residual-size, corrections_of, Closes}
use Rattle.residuals.specs.Ranges.{Solved, closes_at, sound-at}

-- ════ counts
abbrev pub word_count : List Place → ℕ
word_count places = sum_n 256 (λ p. line_length (record_at places p))

unfoldable pub counts_of : List Place → Counts
counts_of places = record { records = record_count places; words = word_count places }

pub record_one : (r : Record) → is_record r ≤ 1
unfolding is_record
record_one r = go (is_empty r)
  where
    go : (t : Bool) → cond t 0 1 ≤ 1
    go true = lit≤ tt
    go false = lit≤ tt

pub words_few : (r : Record) → line_length r ≤ 7
unfolding line_length
words_few r = go (is_empty r)
  where
    go : (t : Bool) → cond t 0 (1 + 2 * observations r) ≤ 7
    go true = lit≤ tt
    go false = omega (arith, observations_few r)

-- no sheet takes more than 2,021 words: those of 32 stations and 256 baselines
pub room_small : (net : Network) (places : List Place) → net.count ≤ 32 → room net places ≤ 2021
unfolding room
room_small net places h = omega (arith, sum_n-const 256 {f = λ p. line_length (record_at places p)} 7 (λ p l. words_few (record_at places p)))

-- what the loop has counted of the first n places
pub record Counted (places : List Place) (records words n : ℕ) : Type 0 where
  pub are_records : records ≡ sum_n n (λ p. is_record (record_at places p))
  pub are_words : words ≡ sum_n n (λ p. line_length (record_at places p))

module _ (places : List Place) where
  pub none_counted : Counted places 0 0 0
  none_counted =
      record {
        are_records = sym (sum_n_zero (λ p. is_record (record_at places p)));
        are_words = sym (sum_n_zero (λ p. line_length (record_at places p)));
      }

  pub counted_more : {records words n a b : ℕ} → Counted places records words n
      → a ≡ is_record (record_at places n) → b ≡ line_length (record_at places n) → Counted places (records + a) (words + b) (n + 1)
  counted_more {n} g p q =
      record {
        are_records = ap₂ ◌+◌ g.are_records p ∙ sym (sum_n-+1 n (λ p. is_record (record_at places p)));
        are_words = ap₂ ◌+◌ g.are_words q ∙ sym (sum_n-+1 n (λ p. line_length (record_at places p)));
      }

  pub counted_few : {records words n : ℕ} → Counted places records words n → n ≤ 256 → (records ≤ 256) × (words ≤ 1792)
  counted_few {n} g h =
      let a = sum_n-const n {f = λ p. is_record (record_at places p)} 1 (λ p l. record_one (record_at places p)) in
      let b = sum_n-const n {f = λ p. line_length (record_at places p)} 7 (λ p l. words_few (record_at places p)) in
      (omega (arith, g.are_records), omega (arith, g.are_words))

  pub counted_all : {records words : ℕ} → Counted places records words 256 → record { records = records; words = words } ≡ counts_of places
  unfolding counts_of record_count
  counted_all g = λ i. record { records = g.are_records i; words = g.are_words i }

-- all of them are few
pub record FewCounts (c : Counts) : Type 0 where
  pub records : c.records ≤ 256
  pub words : c.words ≤ 1792

pub counts_few : (places : List Place) → FewCounts (counts_of places)
unfolding counts_of record_count
counts_few places =
    record {
      records = sum_n-const 256 {f = λ p. is_record (record_at places p)} 1 (λ p l. record_one (record_at places p));
      words = sum_n-const 256 {f = λ p. line_length (record_at places p)} 7 (λ p l. words_few (record_at places p));
    }

-- ════ in the adjustment, from the table of unknowns: an end is unknown in U
unfoldable pub in_adjustment_in : List ℤ → Record → Bool
in_adjustment_in unknowns r = acts 2 r && (eq_z (get_or unknowns (from_of r * 3 + 2) (pos 0)) (pos 1) || eq_z (get_or unknowns (to_of r * 3 + 2) (pos 0)) (pos 1))

-- every record acts in U, and every kind of station that has an unknown has one in U
by_kinds : (n : ℕ) (f t : Kind)
    → (acts_of n 0 && (eqb (unknown_in f 0) 1 || eqb (unknown_in t 0) 1)) || (acts_of n 1 && (eqb (unknown_in f 1) 1 || eqb (unknown_in t 1) 1)) || (acts_of n 2 && (eqb (unknown_in f 2) 1 || eqb (unknown_in t 2) 1))
    ≡ acts_of n 2 && (eqb (unknown_in f 2) 1 || eqb (unknown_in t 2) 1)
unfolding unknown_in acts_of
by_kinds zero f t = refl
by_kinds (suc zero) f t = refl
by_kinds (suc (suc n)) Known Known = refl
by_kinds (suc (suc n)) Known Free = refl
by_kinds (suc (suc n)) Known Height = refl
by_kinds (suc (suc n)) Free t = refl
by_kinds (suc (suc n)) Height Known = refl
by_kinds (suc (suc n)) Height Free = refl
by_kinds (suc (suc n)) Height Height = refl

pub in_adjustment_in_lem : (stations : List Station) (r : Record) → from_of r < 32 → to_of r < 32 → in_adjustment_in (unknown_table stations) r ≡ in_adjustment stations r
unfolding in_adjustment_in in_adjustment unknown_at_end acts
in_adjustment_in_lem stations r f t =
    rw (
      get_d_tabulate 96 (λ q. pos (unknown stations q)) (from_of r * 3 + 2) (pos 0) (omega arith),
      get_d_tabulate 96 (λ q. pos (unknown stations q)) (to_of r * 3 + 2) (pos 0) (omega arith),
      unknown-at stations (from_of r) 0 (omega arith),
      unknown-at stations (from_of r) 1 (omega arith),
      unknown-at stations (from_of r) 2 (omega arith),
      unknown-at stations (to_of r) 0 (omega arith),
      unknown-at stations (to_of r) 1 (omega arith),
      unknown-at stations (to_of r) 2 (omega arith),
    )
    (sym (by_kinds (observations r) (station_at stations (from_of r)).kind (station_at stations (to_of r)).kind))

-- ════ D
abbrev pub share_din : List ℤ → Record → ℕ
share_din unknowns r = cond (in_adjustment_in unknowns r) (observations r) 0

abbrev pub freedom : ℕ → ℕ → ℤ
freedom observed n = pos observed -ℤ pos n

pub share_d_few : (unknowns : List ℤ) (r : Record) → share_din unknowns r ≤ 3
share_d_few unknowns r = go (in_adjustment_in unknowns r)
  where
    go : (b : Bool) → cond b (observations r) 0 ≤ 3
    go true = observations_few r
    go false = lit≤ tt

pub D_in : {net : Network} {places : List Place} → ByRules net places
    → freedom (sum_n 256 (λ p. share_din (unknown_table net.stations) (record_at places p))) (unknown_count net.stations) ≡ D net.stations places
unfolding D share_d
D_in {net} {places} g =
    ap (λ (k : ℕ). freedom k (unknown_count net.stations)) (sum_n-ext 256 (λ p h.
    let s = record_sound net places g p h in ap (λ (b : Bool). cond b (observations (record_at places p)) 0) (in_adjustment_in_lem net.stations (record_at places p) s.from s.to)))

-- ════ T over the tables of components
unfoldable pub weighted_squares_in : List ℤ → List ℤ → Record → ℤ
weighted_squares_in coordinate corrections r = sum 3 (λ a. sum 3 (λ b. residual_in coordinate corrections r a *ℤ P r a b *ℤ residual_in coordinate corrections r b))

unfoldable pub share_tin : List ℤ → List ℤ → List ℤ → Record → ℤ
share_tin unknowns coordinate corrections r = cond (in_adjustment_in unknowns r) (weighted_squares_in coordinate corrections r) (pos 0)

-- records that close, with their weights in range
pub record Weighed (coordinate corrections : List ℤ) (r : Record) : Type 0 where
  pub closes : Closes coordinate corrections r
  pub weight : (k : ℕ) → nat_abs (get_or (weights r) k (pos 0)) ≤ 10000

pub weighed_at : {net : Network} {places : List Place} {x : List ℤ} → Solved net places x
    → (p : ℕ) → p < 256 → Weighed (coordinates net.stations) (corrections_of net.stations x) (record_at places p)
weighed_at g p h = record { closes = closes_at g p h; weight = (sound-at g p h).weight }

squares-size : {coordinate corrections : List ℤ} {r : Record} → Weighed coordinate corrections r → nat_abs (weighted_squares_in coordinate corrections r) ≤ 8100000000000000
unfolding weighted_squares_in
squares-size {coordinate} {corrections} {r} g =
    abs-sum-sum-const 3 3 (λ a b. residual_in coordinate corrections r a *ℤ P r a b *ℤ residual_in coordinate corrections r b) 900000000000000 (λ a b h k.
    let x = residual-size coordinate corrections r g.closes a in
    let y = residual-size coordinate corrections r g.closes b in
    let w = g.weight (a * 3 + b) in
    absle (residual_in coordinate corrections r a *ℤ P r a b *ℤ residual_in coordinate corrections r b) (search bounds) (omega arith))

share_size : (unknowns : List ℤ) {coordinate corrections : List ℤ} {r : Record} → Weighed coordinate corrections r → nat_abs (share_tin unknowns coordinate corrections r) ≤ 8100000000000000
unfolding share_tin
share_size unknowns {coordinate} {corrections} {r} g = go (in_adjustment_in unknowns r)
  where
    go : (b : Bool) → nat_abs (cond b (weighted_squares_in coordinate corrections r) (pos 0)) ≤ 8100000000000000
    go true = squares-size g
    go false = lit≤ tt

-- of the first n places
shares_size : (unknowns : List ℤ) {coordinate corrections : List ℤ} (places : List Place) → ((p : ℕ) → p < 256 → Weighed coordinate corrections (record_at places p))
    → (n : ℕ) → n ≤ 256 → nat_abs (sum n (λ p. share_tin unknowns coordinate corrections (record_at places p))) ≤ 2073600000000000000
shares_size unknowns {coordinate} {corrections} places g n h =
    le_trans (abs-sum-const n (λ p. share_tin unknowns coordinate corrections (record_at places p)) 8100000000000000 (λ p l. share_size unknowns (g p (omega arith)))) (omega arith)

share_in : {net : Network} {places : List Place} {x : List ℤ} → Solved net places x → (p : ℕ) → p < 256
    → share_tin (unknown_table net.stations) (coordinates net.stations) (corrections_of net.stations x) (record_at places p) ≡ share_t net.stations x (record_at places p)
unfolding share_tin weighted_squares_in share_t weighted_squares
share_in {net} {places} {x} g p h =
    let r = record_at places p in
    let s = sound-at g p h in
    let v = residual_in_lem net.stations x r s.from s.to in
    ap₂ (λ (b : Bool) (z : ℤ). cond b z (pos 0)) (in_adjustment_in_lem net.stations r s.from s.to)
    (acting_only r _ (residual net.stations x r) _ (residual net.stations x r) v v)

pub T_in : {net : Network} {places : List Place} {x : List ℤ} → Solved net places x
    → sum 256 (λ p. share_tin (unknown_table net.stations) (coordinates net.stations) (corrections_of net.stations x) (record_at places p)) ≡ T net.stations places x
unfolding T
T_in g = sum-ext 256 (λ p h. share_in g p h)

-- the bits of what the loop has added of the first n places
pub record Summed (unknowns coordinate corrections : List ℤ) (places : List Place) (t n : ℕ) : Type 0 where
  pub bits : t ≡ of_z w64 (sum n (λ p. share_tin unknowns coordinate corrections (record_at places p)))

pub summed-none : (unknowns coordinate corrections : List ℤ) (places : List Place) → Summed unknowns coordinate corrections places 0 0
summed-none unknowns coordinate corrections places = record { bits = ap (of_z w64) (sym (sum_zero (λ p. share_tin unknowns coordinate corrections (record_at places p)))) }

module _ {unknowns coordinate corrections : List ℤ} (places : List Place) (g : (p : ℕ) → p < 256 → Weighed coordinate corrections (record_at places p)) {t n : ℕ}
    (b : Summed unknowns coordinate corrections places t n) where
  -- the sum as it is read back
  pub summed : n ≤ 256 → to_z w64 t ≡ sum n (λ p. share_tin unknowns coordinate corrections (record_at places p))
  summed h = ap (to_z w64) b.bits ∙ back (sum n (λ p. share_tin unknowns coordinate corrections (record_at places p))) (shares_size unknowns places g n h) tt

  -- a turn
  turn : {s : ℤ} → n < 256 → s ≡ share_tin unknowns coordinate corrections (record_at places n)
      → to_z w64 t +ℤ stored s ≡ sum (n + 1) (λ p. share_tin unknowns coordinate corrections (record_at places p))
  turn h e =
      ap₂ ◌+ℤ◌ (summed (omega arith)) (ap stored e ∙ back (share_tin unknowns coordinate corrections (record_at places n)) (share_size unknowns (g n h)) tt)
      ∙ sym (sum-+1 n (λ p. share_tin unknowns coordinate corrections (record_at places p)))

  pub summed-fits : {s : ℤ} → n < 256 → s ≡ share_tin unknowns coordinate corrections (record_at places n) → SFits w64 (to_z w64 t +ℤ stored s)
  summed-fits h e = rw (turn h e) (fits_by (sum (n + 1) (λ p. share_tin unknowns coordinate corrections (record_at places p))) (shares_size unknowns places g (n + 1) (omega arith)) tt)

  pub summed-more : {s : ℤ} → n < 256 → s ≡ share_tin unknowns coordinate corrections (record_at places n)
      → Summed unknowns coordinate corrections places (of_z w64 (to_z w64 t +ℤ stored s)) (n + 1)
  summed-more h e = record { bits = ap (of_z w64) (turn h e) }

-- weighted squares from the lists of residuals and weights
pub squares_of : (coordinate corrections : List ℤ) (r : Record)
    → sum 3 (λ a. sum 3 (λ b. get_or (residuals_in coordinate corrections r) a (pos 0) *ℤ get_or (weights r) (a * 3 + b) (pos 0) *ℤ get_or (residuals_in coordinate corrections r) b (pos 0)))
    ≡ weighted_squares_in coordinate corrections r
unfolding weighted_squares_in sum
squares_of coordinate corrections r = refl

pub residuals_within : {coordinate corrections : List ℤ} {r : Record} → Closes coordinate corrections r → Within 3 300000 (residuals_in coordinate corrections r)
residuals_within {coordinate} {corrections} {r} c = record { long = refl; bound = at }
  where
    at : (k : ℕ) → nat_abs (get_or (residuals_in coordinate corrections r) k (pos 0)) ≤ 300000
    at zero = residual-size coordinate corrections r c 0
    at (suc zero) = residual-size coordinate corrections r c 1
    at (suc (suc zero)) = residual-size coordinate corrections r c 2
    at (suc (suc (suc k))) = lit≤ tt

weights-length : (r : Record) → length (weights r) ≡ 9
unfolding weights
weights-length r = refl

pub weights-within : {coordinate corrections : List ℤ} {r : Record} → Weighed coordinate corrections r → Within 9 10000 (weights r)
weights-within {r} g = record { long = weights-length r; bound = g.weight }

-- "9 | … check | … T, beyond ±2^62": it never comes
T-size : {net : Network} {places : List Place} {x : List ℤ} → Solved net places x → nat_abs (T net.stations places x) ≤ 2073600000000000000
T-size {places} g = rw (sym (T_in g)) (shares_size _ places (weighed_at g) 256 (lit≤ tt))

pub T-fits : {net : Network} {places : List Place} {x : List ℤ} → Solved net places x → nat_abs (T net.stations places x) ≤ 2 ^ 62
T-fits g = le_trans (T-size g) (lit≤ tt)
