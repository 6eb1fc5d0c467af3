-- The stations read are those of the book that the bytes hold. Each test told decides its case of `unless_refused`; an accepted pair is in the ranges that the comparison asks for.
use borrow.Author.Rules.{rules}
use mathlib.Core.Path.{◌≡◌, sym, ap, ap₂, ◌∙◌}
use mathlib.Core.Bool.{Bool, true}
use lib.IntN.{ℤ}
use mir.Syntax.{w64}
use mir.ValLaws.{to_z-of_z}
use Rattle.network.specs.Rules.{ends_fit}
use Rattle.network.specs.declared.Network.{Network}
use Rattle.acceptance.specs.Judge.{Answer}
use Rattle.std.specs.Prelude.{Ok}
use Rattle.std.proofs.lemmas.Result.{err_from_is_err_and}
use Rattle.book.specs.declared.Book.{Book}
use Rattle.layout.specs.Bytes.{book_of}
use Rattle.layout.specs.CodecLaws.{fits-room, fits-tested}
use Rattle.checks.specs.Checks.{checked}
use Rattle.checks.specs.CheckLaws.{solved, checked-is}
use Rattle.distances.specs.Distances.{distance_in_range, agrees_at, on_pair, agreement}
use Rattle.distances.specs.DistanceLaws.{ends_refused, range_refused, not_refused}
use Rattle.distances.proofs.answer.check_distance_in.Goals as goal

pub network_in-net-requires : goal.network_in-net-requires
network_in-net-requires c = fits-room _ c.requires

pub returns-then-not-ends_fit : goal.returns-then-not-ends_fit
unfolding agreement
returns-then-not-ends_fit c =
    let lentBook : Book = book_of c.args.s.now in
    let ends_is : c.ends_fit.result ≡ ends_fit lentBook.network.count c.args.d.from c.args.d.to = let a = c.args in
    c.ends_fit.ensures ∙ ap₂ (λ (f t : ℤ). ends_fit c.network_in-net.result.count f t) (to_z-of_z w64 a.d.from (search rules)) (to_z-of_z w64 a.d.to (search rules))
    ∙ ap (λ (n : Network). ends_fit n.count a.d.from a.d.to) c.network_in-net.ensures in
    ends_refused lentBook.network c.args.d _ (sym ends_is ∙ c.if-not-ends_fit.true)

pub returns-then-not-in_range : goal.returns-then-not-in_range
unfolding agreement
returns-then-not-in_range c =
    let lentBook : Book = book_of c.args.s.now in
    let ends_is : c.ends_fit.result ≡ ends_fit lentBook.network.count c.args.d.from c.args.d.to = let a = c.args in
    c.ends_fit.ensures ∙ ap₂ (λ (f t : ℤ). ends_fit c.network_in-net.result.count f t) (to_z-of_z w64 a.d.from (search rules)) (to_z-of_z w64 a.d.to (search rules))
    ∙ ap (λ (n : Network). ends_fit n.count a.d.from a.d.to) c.network_in-net.ensures in
    let ends_fit_lem : ends_fit lentBook.network.count c.args.d.from c.args.d.to ≡ true = sym ends_is ∙ c.if-not-ends_fit.false in
    range_refused lentBook.network c.args.d ends_fit_lem _ (sym c.in_range.ensures ∙ c.if-not-in_range.true)

pub agrees-requires : goal.agrees-requires
agrees-requires c =
    let lentBook : Book = book_of c.args.s.now in
    let ends_is : c.ends_fit.result ≡ ends_fit lentBook.network.count c.args.d.from c.args.d.to = let a = c.args in
    c.ends_fit.ensures ∙ ap₂ (λ (f t : ℤ). ends_fit c.network_in-net.result.count f t) (to_z-of_z w64 a.d.from (search rules)) (to_z-of_z w64 a.d.to (search rules))
    ∙ ap (λ (n : Network). ends_fit n.count a.d.from a.d.to) c.network_in-net.ensures in
    let ends_fit_lem : ends_fit lentBook.network.count c.args.d.from c.args.d.to ≡ true = sym ends_is ∙ c.if-not-ends_fit.false in
    let in_range_lem : distance_in_range c.args.d ≡ true = sym c.in_range.ensures ∙ c.if-not-in_range.false in
    let pair-accepted : checked lentBook c.args.x.now c.args.m.now true ≡ Ok tt = sym c.check_in.ensures ∙ c.in_ok-check_in.was in
    let a = c.args in
    let b = lentBook in
    let u = fits-tested _ c.requires in
    let e = sym (checked-is b u a.x.now a.m.now true) ∙ pair-accepted in
    rw c.network_in-net.ensures
    ((solved b u a.x.now a.m.now true e).moved, ends_fit_lem, in_range_lem)

pub returns-then-agrees : goal.returns-then-agrees
unfolding agreement on_pair
returns-then-agrees c =
    let lentBook : Book = book_of c.args.s.now in
    let ends_is : c.ends_fit.result ≡ ends_fit lentBook.network.count c.args.d.from c.args.d.to = let a = c.args in
    c.ends_fit.ensures ∙ ap₂ (λ (f t : ℤ). ends_fit c.network_in-net.result.count f t) (to_z-of_z w64 a.d.from (search rules)) (to_z-of_z w64 a.d.to (search rules))
    ∙ ap (λ (n : Network). ends_fit n.count a.d.from a.d.to) c.network_in-net.ensures in
    let ends_fit_lem : ends_fit lentBook.network.count c.args.d.from c.args.d.to ≡ true = sym ends_is ∙ c.if-not-ends_fit.false in
    let in_range_lem : distance_in_range c.args.d ≡ true = sym c.in_range.ensures ∙ c.if-not-in_range.false in
    let pair-accepted : checked lentBook c.args.x.now c.args.m.now true ≡ Ok tt = sym c.check_in.ensures ∙ c.in_ok-check_in.was in
    let agrees-is : (t : Bool) → c.agrees.result ≡ t
    → agrees_at lentBook.network.stations c.args.x.now c.args.d ≡ t = λ t e. let a = c.args in
    ap (λ (n : Network). agrees_at n.stations a.x.now a.d) (sym c.network_in-net.ensures) ∙ sym c.agrees.ensures ∙ e in
    sym (ap₂ on_pair pair-accepted (agrees-is _ c.if-agrees.true))
    ∙ not_refused lentBook.network c.args.d ends_fit_lem _ in_range_lem

pub returns : goal.returns
unfolding agreement on_pair
returns c =
    let lentBook : Book = book_of c.args.s.now in
    let ends_is : c.ends_fit.result ≡ ends_fit lentBook.network.count c.args.d.from c.args.d.to = let a = c.args in
    c.ends_fit.ensures ∙ ap₂ (λ (f t : ℤ). ends_fit c.network_in-net.result.count f t) (to_z-of_z w64 a.d.from (search rules)) (to_z-of_z w64 a.d.to (search rules))
    ∙ ap (λ (n : Network). ends_fit n.count a.d.from a.d.to) c.network_in-net.ensures in
    let ends_fit_lem : ends_fit lentBook.network.count c.args.d.from c.args.d.to ≡ true = sym ends_is ∙ c.if-not-ends_fit.false in
    let in_range_lem : distance_in_range c.args.d ≡ true = sym c.in_range.ensures ∙ c.if-not-in_range.false in
    let pair-accepted : checked lentBook c.args.x.now c.args.m.now true ≡ Ok tt = sym c.check_in.ensures ∙ c.in_ok-check_in.was in
    let agrees-is : (t : Bool) → c.agrees.result ≡ t
    → agrees_at lentBook.network.stations c.args.x.now c.args.d ≡ t = λ t e. let a = c.args in
    ap (λ (n : Network). agrees_at n.stations a.x.now a.d) (sym c.network_in-net.ensures) ∙ sym c.agrees.ensures ∙ e in
    sym (ap₂ on_pair pair-accepted (agrees-is _ c.if-agrees.false))
    ∙ not_refused lentBook.network c.args.d ends_fit_lem _ in_range_lem

pub returns-in_err-check_in : goal.returns-in_err-check_in
unfolding agreement on_pair
returns-in_err-check_in c =
    let lentBook : Book = book_of c.args.s.now in
    let ends_is : c.ends_fit.result ≡ ends_fit lentBook.network.count c.args.d.from c.args.d.to = let a = c.args in
    c.ends_fit.ensures ∙ ap₂ (λ (f t : ℤ). ends_fit c.network_in-net.result.count f t) (to_z-of_z w64 a.d.from (search rules)) (to_z-of_z w64 a.d.to (search rules))
    ∙ ap (λ (n : Network). ends_fit n.count a.d.from a.d.to) c.network_in-net.ensures in
    let ends_fit_lem : ends_fit lentBook.network.count c.args.d.from c.args.d.to ≡ true = sym ends_is ∙ c.if-not-ends_fit.false in
    let in_range_lem : distance_in_range c.args.d ≡ true = sym c.in_range.ensures ∙ c.if-not-in_range.false in
    let p = err_from_is_err_and c.from_residual.result c.from_residual.ensures.1 in
    rw (p.1, p.2)
    (sym (ap (λ (r : Answer). on_pair r (agrees_at lentBook.network.stations c.args.x.now c.args.d)) (sym c.check_in.ensures ∙ c.in_err-check_in.was))
    ∙ not_refused lentBook.network c.args.d ends_fit_lem _ in_range_lem)
