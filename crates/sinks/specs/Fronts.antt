-- The front of a slice, as a sink.
use Rattle.std.specs.Prelude.{◌≡◌, ℕ, ◌+◌, ◌-◌, ◌≤◌, ◌<◌, List, ◌++◌, length}
use Rattle.std.proofs.Common.{sym, refl, ap, ◌∙◌, arith, ap₂, add-zero, length-append}
use Rattle.sinks.specs.declared.front.Front.{Front}
use Rattle.sinks.specs.Overs.{over_from, length_over_from, over_none, over_more, over_full}
use Rattle.sinks.specs.Sinks.{Laws}

-- s is written on with xs, as far as there is room, and is t
pub record Written {T : Type 0} (s : Front T) (xs : List T) (t : Front T) : Type 0 where
  pub same : t.list.ghost_name ≡ s.list.ghost_name
  pub list : t.list.now ≡ over_from s.filled xs s.list.now

-- there was room for all of them
pub record Filled {T : Type 0} (s : Front T) (xs : List T) (t : Front T) : Type 0 where
  pub written : Written s xs t
  pub filled : t.filled ≡ s.filled + length xs
  pub room : length xs ≤ length s.list.now - s.filled

-- there was none
pub record Full {T : Type 0} (s : Front T) (xs : List T) (t : Front T) : Type 0 where
  pub written : Written s xs t
  pub room : length s.list.now - s.filled < length xs

module _ {T : Type 0} (s t u : Front T) (xs ys : List T) where
  onward : Filled s xs t → Written t ys u → Written s (xs ++ ys) u
  onward h k = record {
    same = k.same ∙ h.written.same;
    list = k.list ∙ ap₂ (λ (i : ℕ) zs. over_from i ys zs) h.filled h.written.list ∙ over_more s.filled xs ys s.list.now;
  }

  left : Filled s xs t → length t.list.now ≡ length s.list.now
  left h = ap length h.written.list ∙ length_over_from s.filled xs s.list.now

pub front_laws : {T : Type 0} → Laws {S = Front T} {T = T} Filled Full
front_laws = record {
  none = λ s. record { written = record { same = refl; list = sym (over_none s.filled s.list.now) }; filled = sym (add-zero s.filled); room = omega arith };
  more = λ s t u xs ys h k.
      let e = left s t u xs ys h in
      let l = length-append xs ys in
      record { written = onward s t u xs ys h k.written; filled = omega (arith, h.filled, k.filled, l); room = omega (arith, h.filled, h.room, k.room, e, l) };
  then = λ s t u xs ys h k.
      let e = left s t u xs ys h in
      let l = length-append xs ys in
      record { written = onward s t u xs ys h k.written; room = omega (arith, h.filled, h.room, k.room, e, l) };
  full = λ s t xs ys h.
      let l = length-append xs ys in
      record {
        written = record { same = h.written.same; list = h.written.list ∙ sym (over_full s.filled xs ys s.list.now (omega (arith, h.room))) };
        room = omega (arith, h.room, l);
      };
}
