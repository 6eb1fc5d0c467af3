-- What the theorems of proofs/ speak of: kept entries that lie apart, how often a byte is kept and how often it is skipped, skipped runs by rising start, a longest run. Assumes nothing.
use Rattle.std.specs.Prelude.{ℕ, zero, suc, ◌+◌, ◌-◌, ◌<◌, ◌≤◌, ◌≡◌, cond, ◌&&◌, List, [], ◌∷◌, leb, ltb, length}
use Rattle.salvage.specs.Salvage.{kept_starts}

-- starts of entries that lie apart or end to end, from byte `from` to byte `end`
abbrev pub Apart : ℕ → List ℕ → ℕ → Type 0
Apart from [] end = from ≤ end
Apart from (k ∷ ks) end = (from ≤ k) × Apart (k + 128) ks end

-- n starts, end to end from byte `at` on
unfoldable pub starts_from : ℕ → ℕ → List ℕ
starts_from at zero = []
starts_from at (suc n) = at ∷ starts_from (at + 128) n

-- 1 where byte j is one of those from a to before b, else 0
unfoldable pub times_within : ℕ → ℕ → ℕ → ℕ
times_within a b j = cond (leb a j && ltb j b) 1 0

-- how often byte j lies in an entry that starts at one of ks
unfoldable pub times_kept : ℕ → List ℕ → ℕ
times_kept j [] = 0
times_kept j (k ∷ ks) = times_within k (k + 128) j + times_kept j ks

-- how often byte j lies in one of these runs
unfoldable pub times_skipped : ℕ → List (ℕ × ℕ) → ℕ
times_skipped j [] = 0
times_skipped j (r ∷ rs) = times_within r.0 (r.0 + r.1) j + times_skipped j rs

-- by rising start from byte `from` on: none is empty, and between two of them there is a byte
abbrev pub Parted : ℕ → List (ℕ × ℕ) → Type 0
Parted from [] = Unit {0}
Parted from (r ∷ rs) = (from ≤ r.0) × (0 < r.1) × Parted (suc (r.0 + r.1)) rs

-- a run of f that goes on neither way: the byte before it and the byte behind it, where there are such, are kept
pub record Longest (f : List ℕ) (r : ℕ × ℕ) : Type 0 where
  pub some : 0 < r.1
  pub before : 0 < r.0 → times_kept (r.0 - 1) (kept_starts f) ≡ 1
  pub behind : r.0 + r.1 < length f → times_kept (r.0 + r.1) (kept_starts f) ≡ 1
