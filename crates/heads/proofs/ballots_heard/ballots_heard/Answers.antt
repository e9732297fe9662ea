use Rattle.std.proofs.Common.{◌≡◌, ℕ, Bool, ◌-◌, List, length, Some, None, Option, Decides, sym, refl, ap, ◌∙◌, subst}
use Rattle.std.proofs.lemmas.Option.{slice_get_read}
use Rattle.std.proofs.lemmas.Bool.{ltb-true, ltb-false}
use Rattle.sets.specs.declared.walk.Members.{Members}
use Rattle.sets.specs.Sets.{bit, lowest_from}
use Rattle.heads.specs.declared.head.Ballots.{Ballots}
use Rattle.heads.specs.declared.head.Head.{Head}
use Rattle.ballots.specs.Order.{Total}
use Rattle.heads.specs.Heard.{joined, ballots_below, ballots_of, IsLeast, TwoHeard}
use Rattle.heads.proofs.Walks.{below_none, walk_more, walk_all, walk_past, right, differ_decides}
use Rattle.heads.proofs.ballots_heard.ballots_heard.Goals as goal

-- the walk's question, asked of the hear word
asked : (set word from : ℕ) (o : Option ℕ) → set ≡ word → o ≡ lowest_from (bit set) from (64 - from) → lowest_from (bit word) from (64 - from) ≡ o
asked set word from o e r = ap (λ (w : ℕ). lowest_from (bit w) from (64 - from)) (sym e) ∙ sym r

pub loop-i-init : goal.loop-i-init
loop-i-init g c =
    let same = c.into_iter-i-iterator.ensures.into_iter_gives in (
      ap (λ (m : Members). m.set) same ∙ c.members-i-items.ensures.set,
      c.none-heard.ensures ∙ sym (below_none _ _ _)
          ∙ ap (ballots_below g.B.Ballot.earlier c.args.heads.now c.args.word) (sym (ap (λ (m : Members). m.from) same ∙ c.members-i-items.ensures.from)),
    )

pub loop-i-preserved : goal.loop-i-preserved
loop-i-preserved g c =
    let earlier = g.B.Ballot.earlier in
    let heads = c.args.heads.now in
    let word = c.args.word in
    let walk = c.loop-i.i-iterator in
    let i = c.in-Some.i in
    let h = c.in-Some-get.head.now in
    let gives = c.in-Some.ensures.steps in
    let found = asked walk.set word walk.from (Some i) c.loop-i.invariant.0 gives.0 in
    let read = slice_get_read heads (length heads) i h refl (ltb-true i (length heads) (sym c.in-Some-get.ensures.lookup.0)) c.in-Some-get.ensures.lookup.1 in
    let told : c.join-heard.result ≡ joined earlier c.loop-i.heard (Some h.estimate) = c.join-heard.ensures in (
      gives.1.0 ∙ c.loop-i.invariant.0,
      told ∙ walk_more earlier heads word walk.from i h c.loop-i.heard found read c.loop-i.invariant.1
          ∙ ap (ballots_below earlier heads word) (sym gives.1.1),
    )

module _ {B : Type 0} (earlier : B → B → Bool) (total : Total earlier) (hs : List (Head B)) (word : ℕ) (s : Ballots B) (value : s ≡ ballots_of earlier hs word) where
  least_of : IsLeast earlier hs word 64 s.least
  least_of = subst (λ (x : Ballots B). IsLeast earlier hs word 64 x.least) (sym value) (right earlier hs word total 64).least

  differ_of : Decides s.differ (TwoHeard hs word 64)
  differ_of = subst (λ (x : Ballots B). Decides x.differ (TwoHeard hs word 64)) (sym value) (differ_decides earlier hs word total 64)

pub returns-in_default : goal.returns-in_default
returns-in_default g c =
    let earlier = g.B.Ballot.earlier in
    let hs = c.args.heads.now in
    let word = c.args.word in
    let walk = c.loop-i.i-iterator in
    let gives = c.in-Some.ensures.steps in
    let past = ltb-false c.in-Some.i (length hs) (sym c.in_default.ensures.lookup.0) in
    let value = c.loop-i.invariant.1 ∙ walk_past earlier hs word walk.from c.in-Some.i walk.within (asked walk.set word walk.from (Some c.in-Some.i) c.loop-i.invariant.0 gives.0) past in
    record { value = value; least = least_of earlier g.met.B.Ballot.total hs word _ value; differ = differ_of earlier g.met.B.Ballot.total hs word _ value }

pub returns-in-None : goal.returns-in-None
returns-in-None g c =
    let earlier = g.B.Ballot.earlier in
    let hs = c.args.heads.now in
    let word = c.args.word in
    let walk = c.loop-i.i-iterator in
    let gives = c.in-None.ensures.steps in
    let value = c.loop-i.invariant.1 ∙ walk_all earlier hs word walk.from walk.within (asked walk.set word walk.from None c.loop-i.invariant.0 gives.0) in
    record { value = value; least = least_of earlier g.met.B.Ballot.total hs word _ value; differ = differ_of earlier g.met.B.Ballot.total hs word _ value }
