-- A list that grows, as a sink.
use Rattle.std.specs.Prelude.{◌≡◌, List, ◌++◌, vec_items}
use Rattle.std.proofs.Common.{sym, ap, ◌∙◌, append_assoc, append-nil}
use Rattle.std.specs.Global.{Vec}
use Rattle.sinks.specs.Sinks.{Laws}

-- its elements, and then these
abbrev pub Appended : {T : Type 0} → Vec T → List T → Vec T → Type 0
Appended s xs t = vec_items t ≡ vec_items s ++ xs

-- nothing is promised of a list for which there is no memory
abbrev pub Spoiled : {T : Type 0} → Vec T → List T → Vec T → Type 0
Spoiled s xs t = Unit {0}

pub vec_laws : {T : Type 0} → Laws {S = Vec T} {T = T} Appended Spoiled
vec_laws = record {
  none = λ s. sym (append-nil (vec_items s));
  more = λ s t u xs ys h k. k ∙ ap (λ w. w ++ ys) h ∙ append_assoc (vec_items s) xs ys;
  then = λ s t u xs ys h k. tt;
  full = λ s t xs ys h. tt;
}
