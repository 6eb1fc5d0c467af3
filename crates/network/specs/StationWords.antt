-- A station in four words, as a list of numbers has it: kind, E, N, U; and a list of stations. Assumes nothing.
use Rattle.std.specs.Prelude.{◌*◌, ◌≡◌, refl, List, [], ◌∷◌, ◌++◌, length, ℤ, pos}
use Rattle.std.proofs.Common.{ap, ◌∙◌, append-nil, arith}
use Rattle.words.specs.Signed.{index_in}
use Rattle.network.specs.Stations.{kind_at, kind_of}
use Rattle.network.specs.declared.Kind.{Kind}
use Rattle.network.specs.declared.Kind.TheVariants.{Known, Free, Height}
use Rattle.network.specs.declared.Station.{Station}

-- kinds in numbers: 1 known, 2 free, 3 height
unfoldable pub kind_word : Kind → ℤ
kind_word Known = pos 1
kind_word Free = pos 2
kind_word Height = pos 3

unfoldable pub station_words : Station → List ℤ
station_words s = kind_word s.kind ∷ s.east ∷ s.north ∷ s.up ∷ []

-- the words of a list of stations, in list order
unfoldable pub flat : List Station → List ℤ
flat [] = []
flat (s ∷ ss) = station_words s ++ flat ss

pub flat-length : (ss : List Station) → length (flat ss) ≡ length ss * 4
unfolding flat station_words
flat-length [] = refl
flat-length (s ∷ ss) = omega (arith, flat-length ss)

pub flat_append : (ss more : List Station) → flat (ss ++ more) ≡ flat ss ++ flat more
unfolding flat station_words
flat_append [] more = refl
flat_append (s ∷ ss) more = rw (flat_append ss more)

-- one station more
pub flat-one : (ss : List Station) (s : Station) → flat (ss ++ (s ∷ [])) ≡ flat ss ++ station_words s
unfolding flat
flat-one ss s = flat_append ss (s ∷ []) ∙ ap (λ (l : List ℤ). flat ss ++ l) (append-nil (station_words s))

-- the kind that a kind's number gives is that kind
pub kind_back : (k : Kind) → kind_of (kind_word k) ≡ k
unfolding kind_at kind_word index_in
kind_back Known = refl
kind_back Free = refl
kind_back Height = refl
