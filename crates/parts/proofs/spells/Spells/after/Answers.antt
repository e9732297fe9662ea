use Rattle.std.proofs.Common.{◌≡◌, ℕ, ◌+◌, ◌≤◌, List, [], Some, None, Option, Bor, MatchOption, ◌∙◌, ap, sym, rules}
use Rattle.std.specs.List.{All, Contains}
use Rattle.parts.specs.declared.spells.Spell.{Spell}
use Rattle.parts.specs.Spells.{listed, past}
use Rattle.parts.proofs.Spanning.{past_is}
use Rattle.parts.proofs.spells.Spells.after.Goals as goal

abbrev Latest : List Spell → Option (Bor Spell) → Type 0
Latest spells o = MatchOption o (spells ≡ []) (λ x. Contains spells x.now × All (λ y. y.last ≤ x.now.last) spells)

abbrev After : ℕ → Option (Bor Spell) → Type 0
After r o = MatchOption o (r ≡ 0) (λ x. r ≡ x.now.last + 1)

after_is : (spells : List Spell) (o : Option (Bor Spell)) (r : ℕ) → Latest spells o → After r o → r ≡ past spells
after_is spells (Some x) r latest e = e ∙ past_is spells x.now latest.0 latest.1
after_is spells None r none e = e ∙ sym (ap past none)

pub returns : goal.returns
returns c =
    let spells = listed c.args.self.now in
    let latest : Latest spells c.max_by_key.result = search rules in
    let after : After c.map_or.result c.max_by_key.result = search rules in
    after_is spells c.max_by_key.result c.map_or.result latest after
