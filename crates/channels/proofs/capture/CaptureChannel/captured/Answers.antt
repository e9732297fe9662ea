use Rattle.std.proofs.Common.{◌&&◌, ◌||◌, eqb, sym, ap, ◌∙◌}
use Rattle.std.proofs.Math.Bool.{or-false}
use Rattle.sets.specs.Sets.{bit}
use Rattle.sets.proofs.Words.{word_same}
use Rattle.channels.specs.Own.{is_own}
use Rattle.channels.specs.Captured.{nearest_some, nearest_none}
use Rattle.channels.proofs.Joined.{joined_of}
use Rattle.channels.proofs.capture.CaptureChannel.captured.Goals as goal

pub returns-in-Some : goal.returns-in-Some
returns-in-Some c =
    let p = c.args.self.now.positions in
    let h = c.args.hearer in
    let s = c.args.senders in
    let b = c.in-Some.i in
    c.joined.ensures
    ∙ joined_of (is_own h s) (λ i. bit s i && eqb i b) _ _ c.only-own.ensures c.only.ensures
    ∙ word_same 64 _ _ (λ i l. ap (λ t. is_own h s i || t) (nearest_some p h s b c.in-Some.ensures i l))

pub returns-in-None : goal.returns-in-None
returns-in-None c =
    let p = c.args.self.now.positions in
    let h = c.args.hearer in
    let s = c.args.senders in
    c.only-own.ensures ∙ word_same 64 _ _ (λ i l. sym (or-false (is_own h s i)) ∙ ap (λ t. is_own h s i || t) (sym (nearest_none p h s c.in-None.ensures i l)))
