-- The station list opens (`list_opens`), so the result is `Ok` of the opened book. Assumes nothing.
use Rattle.std.proofs.Common.{◌≡◌, true, ap, subst}
use Rattle.std.specs.Prelude.{Result, Ok, IfOk, is_ok}
use Rattle.network.specs.Stations.{network_of}
use Rattle.book.specs.declared.Book.{Book}
use Rattle.book.specs.declared.Refusal.{Refusal}
use Rattle.book.specs.Book.{opened_book, sound}
use Rattle.cases.specs.Table.{station_list}
use Rattle.cases.specs.Worked.{list_opens}
use Rattle.cases.proofs.Calls.{opened-is}
use Rattle.cases.proofs.opened.Goals as goal

pub unwrap-requires : goal.unwrap-requires
unfolding station_list
unwrap-requires c = let e = opened-is station_list c.open.result c.open.ensures.opened list_opens in ap (λ (r : Result Book Refusal). is_ok r) e

pub returns : goal.returns
unfolding station_list
returns c =
    let e : c.open.result ≡ Ok (opened_book (network_of station_list)) = opened-is station_list c.open.result c.open.ensures.opened list_opens in
    let same : c.unwrap.result ≡ opened_book (network_of station_list) = cc (c.unwrap.ensures, e) in
    let holds : IfOk {E = Refusal} (Ok c.unwrap.result) (λ (b : Book). sound b ≡ true) = subst (λ (r : Result Book Refusal). IfOk r (λ (b : Book). sound b ≡ true)) c.unwrap.ensures c.open.ensures.sound in
    (same, holds)
