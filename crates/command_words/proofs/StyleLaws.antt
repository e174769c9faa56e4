use Rattle.std.proofs.Common.{◌≡◌, ◌<◌, ℕ, suc, List, [], ◌∷◌, length, map, Option, Some, None, Bool, true, false, cond, refl, ap, arith, option_map, sym}
use Rattle.std.proofs.lemmas.List.{length-map}
use Rattle.std.proofs.lemmas.Option.{same_Some}
use Rattle.std.specs.Str.{bytes_eq}
use Rattle.clap.specs.Kinds.{Kinds}
use Rattle.clap.specs.Words.{Row, Text, fault_of, matches_of}
use Rattle.command_words.specs.Arguments.{given_by, unless_refused}
use Rattle.command_words.specs.Command.{Names, make_app, make_from, make_in, make_names, names_from, names_in, place_of, route_app, style_given}
use Rattle.command_words.specs.declared.command.Wanted.{Wanted}

-- the place of a style is among the styles
place-within : (styles : List Text) (text : Text) (place : ℕ) → place_of styles text ≡ Some place → place < length styles
place-within [] text place is = cc
place-within (name ∷ styles) text place is = by (bytes_eq name text) (place_of styles text) (place-within styles text) is
  where
    by : (same : Bool) (found : Option ℕ) → ((p : ℕ) → found ≡ Some p → p < length styles) → cond same (Some 0) (option_map suc found) ≡ Some place
        → place < length (name ∷ styles)
    by true found within is = let zero : 0 ≡ place = same_Some 0 place is in omega arith
    by false None within is = cc
    by false (Some p) within is = let next : suc p ≡ place = same_Some (suc p) place is in omega (arith, within p refl)

given-within : (styles : List Text) (value : Option Text) (place : ℕ) → 0 < length styles → style_given styles value ≡ Some place → place < length styles
given-within styles None place some is = let zero : 0 ≡ place = same_Some 0 place is in omega arith
given-within styles (Some text) place some is = place-within styles text place is

from-within : (d r o : Option Text) (w : Option Wanted) (s : Option ℕ) (q p : Bool) (count : ℕ) (names : Names) → ((place : ℕ) → s ≡ Some place → place < count)
    → names_from d r o w s q p ≡ Some names → names.style < count
from-within (Some d) (Some r) (Some o) (Some w) (Some s) q p count names within is =
    let style : s ≡ names.style = ap (λ (n : Names). n.style) (same_Some _ names is) in omega (arith, within s refl)
from-within (Some d) (Some r) (Some o) (Some w) None q p count names within is = cc
from-within (Some d) (Some r) (Some o) None s q p count names within is = cc
from-within (Some d) (Some r) None w s q p count names within is = cc
from-within (Some d) None o w s q p count names within is = cc
from-within None r o w s q p count names within is = cc

-- what words give is of one of the styles
pub style-within : (styles words : List Text) (names : Names) → 0 < length styles → given_by route_app (names_in styles) words ≡ Some names → names.style < length styles
unfolding given_by
style-within styles words names some is = by (fault_of route_app words) (matches_of route_app words) is
  where
    by : (kinds : Kinds) (rows : List Row) → unless_refused kinds (names_in styles rows) ≡ Some names → names.style < length styles
    by [] rows is = from-within _ _ _ _ _ _ _ (length styles) names (λ place given. given-within styles _ place some given) is
    by (kind ∷ kinds) rows is = cc

-- the same of styles that have names
pub named-within : {C : Type 0} (name : C → Text) (styles : List C) (words : List Text) (names : Names) → 0 < length styles
    → given_by route_app (names_in (map name styles)) words ≡ Some names → names.style < length styles
named-within name styles words names some is =
    let same : length (map name styles) ≡ length styles = length-map styles name in
    omega (arith, style-within (map name styles) words names (omega arith) is)

-- a design that is made is of the first style
from-first : (seed count tries : Option ℕ) (rules out : Option Text) (quiet progress : Bool) (names : Names) → make_from seed count tries rules out quiet progress ≡ Some names
    → names.style ≡ 0
from-first (Some seed) (Some count) (Some tries) (Some rules) (Some out) quiet progress names is =
    sym (ap (λ (n : Names). n.style) (same_Some (make_names seed count tries rules out quiet progress) names is))
from-first (Some seed) (Some count) (Some tries) (Some rules) None quiet progress names is = cc
from-first (Some seed) (Some count) (Some tries) None out quiet progress names is = cc
from-first (Some seed) (Some count) None rules out quiet progress names is = cc
from-first (Some seed) None tries rules out quiet progress names is = cc
from-first None count tries rules out quiet progress names is = cc

pub made-within : (words : List Text) (names : Names) (count : ℕ) → 0 < count → given_by make_app make_in words ≡ Some names → names.style < count
unfolding given_by
made-within words names count some is = by (fault_of make_app words) (matches_of make_app words) is
  where
    by : (kinds : Kinds) (rows : List Row) → unless_refused kinds (make_in rows) ≡ Some names → names.style < count
    by [] rows is = omega (arith, some, from-first _ _ _ _ _ _ _ names is)
    by (kind ∷ kinds) rows is = cc
