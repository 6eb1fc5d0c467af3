-- "Kept and skipped bytes together tile the input" (`tiles`), the skipped runs are longest (`skipped_longest`), and both lists are by rising start (`skipped_parted`; `kept-apart` of
-- ScanLaws). Assumes nothing.
use Rattle.salvage.specs.Statements.{Apart, times_within, times_kept, times_skipped, Parted, Longest}
use Rattle.std.specs.Prelude.{ℕ, zero, suc, ◌+◌, ◌-◌, ◌<◌, ◌≤◌, ◌≡◌, List, [], ◌∷◌, ◌++◌, leb, ltb, length, get_or}
use Rattle.std.proofs.Common.{sym, subst, append-nil, arith}
use Rattle.std.proofs.Math.Decide.{dec_lt}
use borrow.Author.Tests.{lt-ltb, le-ltb, le-leb, lt-leb}
use Rattle.words.specs.Bools.{and_no_right}
use Rattle.salvage.specs.Salvage.{kept_starts, run_between, runs_between, skipped_runs}
use Rattle.salvage.proofs.ScanLaws.{kept-apart, apart-room, run_one, run_none}

-- ════ the statements
-- ════ tiling
module _ (a b j : ℕ) where
  within_yes : a ≤ j → j < b → times_within a b j ≡ 1
  unfolding times_within
  within_yes h l = rw (le-leb a j h, lt-ltb j b l)

  within_low : j < a → times_within a b j ≡ 0
  unfolding times_within
  within_low h = rw (lt-leb a j h)

  within-high : b ≤ j → times_within a b j ≡ 0
  unfolding times_within
  within-high h = rw (and_no_right (leb a j) (ltb j b) (le-ltb j b h))

within-split : (a b c j : ℕ) → a ≤ b → b ≤ c → times_within a b j + times_within b c j ≡ times_within a c j
within-split a b c j h l = go (dec_lt j a) (dec_lt j b) (dec_lt j c)
  where
    go : Dec (j < a) → Dec (j < b) → Dec (j < c) → times_within a b j + times_within b c j ≡ times_within a c j
    go (yes p) q r = rw (within_low a b j p, within_low b c j (omega arith), within_low a c j p)
    go (no p) (yes q) r = rw (within_yes a b j (omega arith) q, within_low b c j q, within_yes a c j (omega arith) (omega arith))
    go (no p) (no q) (yes r) = rw (within-high a b j (omega arith), within_yes b c j (omega arith) r, within_yes a c j (omega arith) r)
    go (no p) (no q) (no r) = rw (within-high a b j (omega arith), within-high b c j (omega arith), within-high a c j (omega arith))

skipped_append : (j : ℕ) (r s : List (ℕ × ℕ)) → times_skipped j (r ++ s) ≡ times_skipped j r + times_skipped j s
unfolding times_skipped
skipped_append j [] s = omega arith
skipped_append j (x ∷ r) s = omega (arith, skipped_append j r s)

skipped_run : (j a b : ℕ) → times_skipped j (run_between a b) ≡ times_within a b j
unfolding times_skipped
skipped_run j a b = go (dec_lt a b)
  where
    none : Dec (j < a) → b ≤ a → times_within a b j ≡ 0
    none (yes p) l = within_low a b j p
    none (no p) l = within-high a b j (omega arith)

    go : Dec (a < b) → times_skipped j (run_between a b) ≡ times_within a b j
    go (yes l) = let e : a + (b - a) ≡ b = omega arith in rw (run_one a b l, e) (omega arith)
    go (no l) = rw (run_none a b (omega arith)) (sym (none (dec_lt j a) (omega arith)))

runs_tile : (j from : ℕ) (ks : List ℕ) (end : ℕ) → Apart from ks end → times_kept j ks + times_skipped j (runs_between from ks end) ≡ times_within from end j
unfolding times_kept runs_between
runs_tile j from [] end a = let e = skipped_run j from end in let h : from ≤ end = a in omega arith
runs_tile j from (k ∷ ks) end a =
    let room = apart-room (k + 128) ks end a.1 in
    let h : from ≤ k = a.0 in
    omega (
      arith,
      runs_tile j (k + 128) ks end a.1,
      skipped_append j (run_between from k) (runs_between (k + 128) ks end),
      skipped_run j from k,
      within-split from k end j h (omega arith),
      within-split k (k + 128) end j (omega arith) (omega arith),
    )

-- every byte of the input lies once in an entry kept or a run skipped, and no other byte does
pub tiles : (f : List ℕ) (j : ℕ) → times_kept j (kept_starts f) + times_skipped j (skipped_runs f) ≡ times_within 0 (length f) j
tiles f j = runs_tile j 0 (kept_starts f) (length f) (kept-apart f 0 (omega arith))

-- ════ rising
parted_less : (a b : ℕ) (rs : List (ℕ × ℕ)) → a ≤ b → Parted b rs → Parted a rs
parted_less a b [] h p = tt
parted_less a b (r ∷ rs) h p = let q = p.0 in (omega arith, p.1, p.2)

run_parted : (from b : ℕ) (rs : List (ℕ × ℕ)) → from ≤ b → Parted (suc b) rs → Parted from (run_between from b ++ rs)
run_parted from b rs h p = go (dec_lt from b)
  where
    go : Dec (from < b) → Parted from (run_between from b ++ rs)
    go (yes l) = let e : from + (b - from) ≡ b = omega arith in rw (run_one from b l) (omega arith, omega arith, rw e p)
    go (no l) = rw (run_none from b (omega arith)) (parted_less from (suc b) rs (omega arith) p)

runs_parted : (from : ℕ) (ks : List ℕ) (end : ℕ) → Apart from ks end → Parted from (runs_between from ks end)
unfolding runs_between
runs_parted from [] end a = subst (Parted from) (append-nil (run_between from end)) (run_parted from end [] a tt)
runs_parted from (k ∷ ks) end a =
    run_parted from k (runs_between (k + 128) ks end) a.0
    (parted_less (suc k) (k + 128) (runs_between (k + 128) ks end) (omega arith) (runs_parted (k + 128) ks end a.1))

pub skipped_parted : (f : List ℕ) → Parted 0 (skipped_runs f)
skipped_parted f = runs_parted 0 (kept_starts f) (length f) (kept-apart f 0 (omega arith))

-- ════ longest
-- runs from byte `from` on have no byte before it
parted_low : (from j : ℕ) (rs : List (ℕ × ℕ)) → Parted from rs → j < from → times_skipped j rs ≡ 0
unfolding times_skipped
parted_low from j [] p h = omega arith
parted_low from j (r ∷ rs) p h =
    let q = p.0 in
    omega (arith, within_low r.0 (r.0 + r.1) j (omega arith), parted_low (suc (r.0 + r.1)) j rs p.2 (omega arith))

-- a run of rs that starts at `from` or later, is not empty, and of which rs has no byte just before it and none just behind it
record Alone (from : ℕ) (rs : List (ℕ × ℕ)) (r : ℕ × ℕ) : Type 0 where
  later : from ≤ r.0
  some : 0 < r.1
  one : 0 < times_skipped r.0 rs
  before : 0 < r.0 → times_skipped (r.0 - 1) rs ≡ 0
  behind : times_skipped (r.0 + r.1) rs ≡ 0

alone : (from : ℕ) (rs : List (ℕ × ℕ)) (i : ℕ) → Parted from rs → i < length rs → Alone from rs (get_or rs i (0, 0))
unfolding times_skipped
alone from [] i p h = absurd (omega arith)
alone from (r ∷ rs) zero p h =
    let e = r.0 + r.1 in
    let q = p.1 in
    record {
      later = p.0;
      some = q;
      one = omega (arith, within_yes r.0 e r.0 (omega arith) (omega arith));
      before = λ z. omega (arith, within_low r.0 e (r.0 - 1) (omega arith), parted_low (suc e) (r.0 - 1) rs p.2 (omega arith));
      behind = omega (arith, within-high r.0 e e (omega arith), parted_low (suc e) e rs p.2 (omega arith));
    }
alone from (r ∷ rs) (suc i) p h =
    let e = r.0 + r.1 in
    let x = get_or rs i (0, 0) in
    let a = alone (suc e) rs i p.2 (omega arith) in
    let l = a.later in
    let o = p.0 in
    record {
      later = omega arith;
      some = a.some;
      one = omega (arith, a.one);
      before = λ z. omega (arith, within-high r.0 e (x.0 - 1) (omega arith), a.before z);
      behind = omega (arith, within-high r.0 e (x.0 + x.1) (omega arith), a.behind);
    }

-- a byte of the input that no run has is kept
kept_instead : (f : List ℕ) (j : ℕ) → times_skipped j (skipped_runs f) ≡ 0 → j < length f → times_kept j (kept_starts f) ≡ 1
kept_instead f j z h = omega (arith, tiles f j, z, within_yes 0 (length f) j (omega arith) h)

-- a byte that a run has is one of the input
run_inside : (f : List ℕ) (j : ℕ) → 0 < times_skipped j (skipped_runs f) → j < length f
run_inside f j h = go (dec_lt j (length f))
  where
    go : Dec (j < length f) → j < length f
    go (yes l) = l
    go (no l) = absurd (omega (arith, tiles f j, within-high 0 (length f) j (omega arith)))

pub skipped_longest : (f : List ℕ) (i : ℕ) → i < length (skipped_runs f) → Longest f (get_or (skipped_runs f) i (0, 0))
skipped_longest f i h =
    let r = get_or (skipped_runs f) i (0, 0) in
    let a = alone 0 (skipped_runs f) i (skipped_parted f) h in
    let l = run_inside f r.0 a.one in
    record {
      some = a.some;
      before = λ z. kept_instead f (r.0 - 1) (a.before z) (omega arith);
      behind = λ k. kept_instead f (r.0 + r.1) a.behind k;
    }
