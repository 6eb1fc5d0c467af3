-- What is copied to x and m is what was accepted. Assumes nothing.
use Rattle.std.proofs.Common.{ℕ, true, List, take, ℤ, ap, ◌∙◌, ap₂, arith}
use Rattle.layout.specs.Bytes.{book_of}
use Rattle.layout.specs.CodecLaws.{fits-room}
use Rattle.checks.specs.Checks.{checked}
use Rattle.engine.proofs.propose_beside.Goals as goal

pub candidate-requires : goal.candidate-requires
candidate-requires c =
    let room = fits-room _ c.requires.s_value in
    let g = c.requires.n_le_most_unknowns in
    record { book_bytes_in_bounds = omega arith; most_unknowns_in_bounds = omega (arith, g) }

pub returns : goal.returns
returns c =
    let f = c.candidate.new in
    ap₂ (λ (p q : List ℤ). checked (book_of c.args.s.now) p q true)
    c.copy_from_slice.ensures.after
    (c.copy_from_slice-2.ensures.after ∙ ap (λ (j : ℕ). take j f.m) c.requires.n_le_most_unknowns.2)
    ∙ c.is_accepted.ensures c.if-not-is_accepted.false
