-- The half-duplex channel keeps the sentences of a channel's meaning.
use Rattle.std.specs.Prelude.{◌≡◌, ℕ, ◌^◌, ◌<◌, true, refl}
use Rattle.std.proofs.Common.{sym, subst, ◌∙◌, arith}
use Rattle.std.proofs.lemmas.Bool.{cond-true, cond-false, cond_both, eq-eqb, eqb-true}
use Rattle.sets.specs.Sets.{bit, Within, Lone}
use Rattle.sets.proofs.Words.{bit_word, none_within, word_within}
use Rattle.sets.proofs.Lone.{lone_same}
use Rattle.parts.specs.Ranges.{at_head}
use Rattle.parts.specs.Channels.{Keeps}
use Rattle.parts.proofs.Heads.{head_below, sender_below}
use Rattle.site_channel.specs.HalfDuplex.{alone, hearing, half_duplex}

-- those heard are senders
heard_send : (hearer senders : ℕ) → Within (hearing hearer senders) senders
heard_send hearer senders =
    cond_both (bit senders hearer) (alone hearer) senders (λ word. Within word senders)
    (λ sends. word_within 64 _ senders (λ i is. subst (λ (j : ℕ). bit senders j ≡ true) (sym (eqb-true i hearer is)) sends))
    (λ _ i heard. heard)

-- a head that sends hears itself
hears_itself : (hearer senders : ℕ) → hearer < 64 → bit senders hearer ≡ true → bit (hearing hearer senders) hearer ≡ true
hears_itself hearer senders below sends = rw (cond-true (bit senders hearer) (alone hearer) senders sends) (bit_word 64 _ hearer below ∙ eq-eqb hearer hearer refl)

-- all hear a lone sender: where the hearer sends, it is the lone sender itself
lone_heard : (hearer senders : ℕ) → hearer < 64 → senders < 2 ^ 64 → Lone senders → Within senders (hearing hearer senders)
lone_heard hearer senders below few lone =
    cond_both (bit senders hearer) (alone hearer) senders (Within senders)
    (λ sends i also.
    let i_below = sender_below senders i few also in
    bit_word 64 _ i i_below ∙ eq-eqb i hearer (lone_same 64 (bit senders) lone i hearer i_below below also sends))
    (λ _ i sends. sends)

pub half_duplex_keeps : Keeps half_duplex
half_duplex_keeps = record {
  some = omega arith;
  most = omega arith;
  senders = λ round hearer senders.
      cond_both (at_head round hearer) (hearing hearer senders) 0 (λ word. Within word senders) (λ _. heard_send hearer senders) (λ _. none_within senders);
  own = λ round hearer senders at sends.
      rw (cond-true (at_head round hearer) (hearing hearer senders) 0 at) (hears_itself hearer senders (head_below round hearer at) sends);
  lone = λ round hearer senders few at _ lone.
      rw (cond-true (at_head round hearer) (hearing hearer senders) 0 at) (lone_heard hearer senders (head_below round hearer at) few lone);
  outside = λ round hearer senders out. cond-false (at_head round hearer) (hearing hearer senders) 0 out;
}
