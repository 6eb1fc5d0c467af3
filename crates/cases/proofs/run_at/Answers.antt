-- The table of the code and that of the cases agree row by row, wherever the numbers of the calls lie in memory. Assumes nothing.
use Prim.Native.Nat.{ℕ, ◌<◌}
use mathlib.Core.Path.{refl}
use mathlib.Core.List.{List, [], ◌∷◌}
use native.Mathlib.Omega.{arith}
use lib.IntN.{ℤ, pos}
use Rattle.integers.specs.Tables.{tabulate}
use Rattle.cases.specs.declared.Run.{Run}
use Rattle.cases.specs.Table.{Case, table}
use Rattle.cases.specs.Cases.{rows_of}
use Rattle.cases.specs.Script.{calls, m2, m3, table-length, rows_named, of_case}
use Rattle.cases.proofs.run_at.Goals as goal

abbrev run : ℕ × ℕ → List ℕ → ℤ → ℤ → Run
run p numbers x m = record { calls = record { ref_ptr = p; now = numbers }; x = x; m = m }

-- the table, its numbers lying at p0 to p13
abbrev runs : (p0 p1 p2 p3 p4 p5 p6 p7 p8 p9 p10 p11 p12 p13 : ℕ × ℕ) → List Run
runs p0 p1 p2 p3 p4 p5 p6 p7 p8 p9 p10 p11 p12 p13 =
    run p0 (0 ∷ 1 ∷ []) (pos 50) m2
    ∷ run p1 (0 ∷ 1 ∷ []) (pos 51) m2
    ∷ run p2 (0 ∷ 1 ∷ []) (pos 50) (pos 0)
    ∷ run p3 [] (pos 50) m2
    ∷ run p4 (0 ∷ 1 ∷ 2 ∷ []) (pos 50) m2
    ∷ run p5 (0 ∷ 1 ∷ 2 ∷ []) (pos 100) m2
    ∷ run p6 (0 ∷ 1 ∷ 2 ∷ 3 ∷ []) (pos 50) m2
    ∷ run p7 (3 ∷ []) (pos 50) m2
    ∷ run p8 (0 ∷ 4 ∷ []) (pos 138) m2
    ∷ run p9 (0 ∷ 5 ∷ []) (pos 139) m2
    ∷ run p10 (0 ∷ 1 ∷ 6 ∷ []) (pos 33367) m3
    ∷ run p11 (0 ∷ 1 ∷ 7 ∷ []) (pos 50) m2
    ∷ run p12 (0 ∷ 1 ∷ 8 ∷ []) (pos 50) m2
    ∷ run p13 (0 ∷ 1 ∷ 9 ∷ []) (pos 33) m3
    ∷ []

pub offset_bounds-k : goal.offset_bounds-k
offset_bounds-k c = omega (arith, table-length)

pub bounds-k-k : goal.bounds-k-k
bounds-k-k c = omega (arith, table-length)

pub returns : goal.returns
unfolding table tabulate calls
returns c =
    let inside : c.args.k < 14 = omega (arith, table-length) in
    record {
      rows = of_case c.args.k inside (λ (r : Run). rows_named r.calls.now) rows_of (runs _ _ _ _ _ _ _ _ _ _ _ _ _ _) (run (0, 0) [] (pos 0) (pos 0)) refl;
      x = of_case c.args.k inside (λ (r : Run). r.x) (λ (e : Case). e.x) (runs _ _ _ _ _ _ _ _ _ _ _ _ _ _) (run (0, 0) [] (pos 0) (pos 0)) refl;
      m = of_case c.args.k inside (λ (r : Run). r.m) (λ (e : Case). e.m) (runs _ _ _ _ _ _ _ _ _ _ _ _ _ _) (run (0, 0) [] (pos 0) (pos 0)) refl;
    }
