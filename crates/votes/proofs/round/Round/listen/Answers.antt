use Rattle.std.proofs.Common.{◌≡◌, ℕ, Bool, List, length, get_or, set, sym, ap, ◌∙◌, ap₂, arith, rules}
use borrow.Author.Rules.{scaled_Fits}
use Rattle.heads.specs.declared.head.Ballots.{Ballots}
use Rattle.heads.specs.declared.head.Head.{Head}
use Rattle.heads.specs.Heard.{estimate_at, ballots_of}
use Rattle.votes.specs.Tables.{rewrite}
use Rattle.votes.specs.Passes.{noted, note_at}
use Rattle.votes.proofs.Rewrites.{rewrite_none, rewrite_more}
use Rattle.votes.proofs.Rounds.{ballots_same, no_one, rewrite_estimate, note_at_estimate}
use Rattle.votes.proofs.Leading.{led_same}
use Rattle.votes.proofs.round.Round.listen.Goals as goal

pub offset_bounds-table-i-in-loop-i : goal.offset_bounds-table-i-in-loop-i
offset_bounds-table-i-in-loop-i g c = scaled_Fits c.loop-i.i (length c.args.table.now) _ (omega arith) (search rules)

module _ {B : Type 0} (earlier : B → B → Bool) (old ts : List (Head B)) (words : List ℕ) (stops i : ℕ) (inv : ts ≡ rewrite (note_at earlier old words stops) i old) where
  -- the estimates, and so the ballots heard, are those of the table at the start
  estimates : (k : ℕ) → estimate_at ts k ≡ estimate_at old k
  estimates k = ap (λ xs. estimate_at xs k) inv ∙ rewrite_estimate (note_at earlier old words stops) (note_at_estimate earlier old words stops) 0 i old k

  kept : (word : ℕ) → ballots_of earlier ts word ≡ ballots_of earlier old word
  kept word = ballots_same earlier ts old word 64 estimates

pub loop-i-init : goal.loop-i-init
loop-i-init g c = (c.none-ballots.ensures ∙ sym (no_one g.B.Ballot.earlier c.args.table.now 64), sym (rewrite_none _ _))

pub heard_again-ballots-requires : goal.heard_again-ballots-requires
heard_again-ballots-requires g c =
    let earlier = g.B.Ballot.earlier in
    let old = c.args.table.now in
    let ts = c.loop-i.table in
    let words = c.args.report.words.now in
    let stops = c.args.report.stops in
    let same = estimates earlier old ts words stops c.loop-i.i c.loop-i.invariant.1 in
    record {
      leaders = led_same earlier old ts (λ k. sym (same k)) (c.loop-i.auto.table) (length words) c.args.self.senders c.requires.long c.leaders-leaders.result c.leaders-leaders.ensures;
      last = c.loop-i.invariant.0 ∙ sym (kept earlier old ts words stops c.loop-i.i c.loop-i.invariant.1 c.loop-i.last);
    }

pub loop-i-preserved : goal.loop-i-preserved
loop-i-preserved g c =
    let earlier = g.B.Ballot.earlier in
    let old = c.args.table.now in
    let words = c.args.report.words.now in
    let i = c.loop-i.i in
    let h = c.index-table-i.result in
    let word = get_or words i 0 in
    let f : ℕ → Head g.row.B.Denot → Head g.row.B.Denot = note_at earlier old words c.args.report.stops in
    let heard : c.heard_again-ballots.result ≡ ballots_of earlier old word =
    c.heard_again-ballots.ensures ∙ kept earlier old c.loop-i.table words c.args.report.stops i c.loop-i.invariant.1 word in
    let told : c.note.result ≡ f i h =
    c.note.ensures ∙ ap₂ (λ (t : Bool) (b : Ballots g.row.B.Denot). noted t b h.state h) c.has.ensures heard in
    (heard, ap (set c.loop-i.table i) told ∙ rewrite_more f old c.loop-i.table i h (omega arith) c.loop-i.invariant.1 c.index-table-i.is)
