-- What holds of spells that fit.
use Rattle.std.proofs.Common.{◌≡◌, ℕ, ◌+◌, ◌≤◌, true, false, ◌&&◌, leb, List, [], ◌∷◌, refl, ap, arith}
use Rattle.std.specs.List.{list_all, All, Contains}
use Rattle.std.proofs.lemmas.Bool.{and_parts, and_right, leb-true, lt-leb, or_from}
use Rattle.std.proofs.lemmas.List.Recursion.{max_bounds, max_least}
use Rattle.parts.specs.declared.spells.Spell.{Spell}
use Rattle.parts.specs.Spans.{fits}
use Rattle.parts.specs.Spells.{spans_at, spanned, past}

pub last_most : (x : Spell) → fits x ≡ true → x.last ≤ 10000
last_most x e =
    leb-true x.last 10000 (and_parts (leb x.first x.last) (leb x.last 10000) (and_parts (leb 1 x.first) (leb x.first x.last && leb x.last 10000) e).1).1

-- ---- the round after them

pub past_most : (spells : List Spell) → list_all fits spells ≡ true → past spells ≤ 10001
past_most [] e = omega arith
past_most (x ∷ spells) e =
    let fit = and_parts (fits x) (list_all fits spells) e in
    omega (arith, last_most x fit.0, past_most spells fit.1)

-- it is the round after the last round of a spell that ends as late as any
pub past_is : (spells : List Spell) (x : Spell) → Contains spells x → All (λ y. y.last ≤ x.last) spells → x.last + 1 ≡ past spells
past_is spells x (k, below, is) all =
    let least = max_bounds past (λ y. y.last + 1) refl (λ _ _. refl) spells k x below in
    let most = max_least past (λ y. y.last + 1) refl (λ _ _. refl) spells x (x.last + 1) (λ i l. omega (arith, all i x l)) in
    omega (arith, ap (λ (y : Spell). y.last) is)

-- from the round after the latest last round on, there is no spell
pub none_past : (spells : List Spell) (round : ℕ) → past spells ≤ round → spanned spells round ≡ false
none_past [] round l = refl
none_past (x ∷ spells) round l =
    or_from (spans_at x round) (spanned spells round)
    (and_right (leb x.first round) (leb round x.last) (lt-leb round x.last (omega arith)))
    (none_past spells round (omega arith))
