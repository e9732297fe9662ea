-- What an answer tells.
use Rattle.std.proofs.Common.{◌≡◌, Bool, true, false, Some, None, Option, sym, refl, ap}
use Rattle.std.proofs.lemmas.Bool.{true≢false}
use Rattle.ballots.specs.Faults.{Breach}
use Rattle.votes.specs.Calls.{Answer, done, refused, unless}

is_done : {A R : Type 0} → Answer A R → Bool
is_done (done a) = true
is_done (refused b r) = false

pub done_refused : {A R : Type 0} {a : A} {b : Breach} {x : R} → done a ≡ refused b x → ⊥
unfolding is_done
done_refused e = true≢false (ap is_done e)

pub done_same : {A R : Type 0} {a b : A} → ◌≡◌ {A = Answer A R} (done a) (done b) → a ≡ b
done_same e = cc

breach_same : {A R : Type 0} {b c : Breach} {x y : R} → ◌≡◌ {A = Answer A R} (refused b x) (refused c y) → b ≡ c
breach_same e = cc

pub back_same : {A R : Type 0} {b c : Breach} {x y : R} → ◌≡◌ {A = Answer A R} (refused b x) (refused c y) → x ≡ y
back_same e = cc

-- an accepted call met no breach, a refused one met the one that it names
pub accepted_by : {A R : Type 0} (o : Option Breach) (a a' : A) (back : R) → done a ≡ unless o a' back → (o ≡ None) × (a ≡ a')
accepted_by None a a' back e = (refl, done_same e)
accepted_by (Some b) a a' back e = absurd (done_refused e)

pub refused_by : {A R : Type 0} (o : Option Breach) (b : Breach) (x : R) (a : A) (back : R) → refused b x ≡ unless o a back → (o ≡ Some b) × (x ≡ back)
refused_by None b x a back e = absurd (done_refused (sym e))
refused_by (Some c) b x a back e = (ap Some (sym (breach_same e)), back_same e)
