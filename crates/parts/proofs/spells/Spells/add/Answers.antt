use Rattle.std.proofs.Common.{◌≡◌, ℕ, ◌+◌, ◌-◌, ◌<◌, true, List, [], ◌∷◌, length, take, drop, set, replicate, sym, refl, ap, ◌∙◌, arith, rules}
use Rattle.std.specs.List.{list_all}
use Rattle.std.proofs.lemmas.Bool.{and_from}
use Rattle.std.proofs.lemmas.List.{take_more_set, drop-set-lt, drop-drop, drop-replicate}
use Rattle.std.proofs.lemmas.List.Folds.{list_all-append}
use Rattle.parts.specs.declared.spells.Spell.{Spell}
use Rattle.parts.specs.Spans.{fits, blank}
use Rattle.parts.proofs.spells.Spells.add.Goals as goal

fit_more : (list : List Spell) (n : ℕ) (x : Spell) → n < length list → list_all fits (take n list) ≡ true → fits x ≡ true → list_all fits (take (n + 1) (set list n x)) ≡ true
fit_more list n x l e f =
    rw (take_more_set list n x l, list_all-append fits (take n list) (x ∷ [])) (and_from (list_all fits (take n list)) (list_all fits (x ∷ [])) e (and_from (fits x) true f refl))

rest_less : (list : List Spell) (n : ℕ) (x : Spell) → drop n list ≡ replicate (16 - n) blank → drop (n + 1) (set list n x) ≡ replicate (16 - (n + 1)) blank
rest_less list n x e =
    let less : (16 - n) - 1 ≡ 16 - (n + 1) = omega arith in
    drop-set-lt (n + 1) list n x (omega arith)
    ∙ sym (drop-drop 1 n list)
    ∙ ap (drop 1) e
    ∙ drop-replicate 1 (16 - n) blank
    ∙ ap (λ (k : ℕ). replicate k blank) less

pub invariant_of-self : goal.invariant_of-self
invariant_of-self c =
    let s = c.args.self.now in
    record {
      few = omega arith;
      fit = fit_more s.list s.count c.args.spell (search rules) s.fit (sym c.fits.ensures ∙ c.if-not-fits.false);
      rest = rest_less s.list s.count c.args.spell s.rest;
    }
