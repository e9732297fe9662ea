use Rattle.std.proofs.Common.{◌≡◌, ℕ, ◌≤◌, List, length, take, Ok, Err, Result, sym, ap, ◌∙◌, arith, rules}
use Rattle.sinks.specs.Overs.{over, take_over}
use Rattle.votes.specs.declared.stages.Figures.{Figures}
use Rattle.recordings.specs.declared.faults.FileFault.{FileFault}
use Rattle.recordings.specs.declared.listing.Outcome.{Outcome}
use Rattle.recordings.specs.Files.{Played, ending_as, file_breach, played}
use Rattle.recordings.specs.Slices.{heads_of, ending_by, told_by}
use Rattle.recordings.proofs.slices.play.Goals as goal

-- n of them where the file plays to its end
abbrev ended : Result (Unit {0}) FileFault → ℕ → Result ℕ FileFault
ended (Ok u) n = Ok n
ended (Err f) n = Err f

-- the first n that were written
front : {X : Type 0} (n : ℕ) (xs ys zs : List X) → n ≡ length xs → length xs ≤ length ys → zs ≡ over xs ys → take n zs ≡ xs
front n xs ys zs e h w = (λ i. take (e i) (w i)) ∙ take_over xs ys h

told : (p : Played) (ending : Result (Unit {0}) FileFault) (m : Result ℕ FileFault) (n k : ℕ) (fs gs : List Figures) (os ps : List Outcome)
    → n ≡ length p.rounds → length p.rounds ≤ length fs → gs ≡ over p.rounds fs → k ≡ length (heads_of p) → length (heads_of p) ≤ length os → ps ≡ over (heads_of p) os
    → p.ending ≡ ending_as ending (λ u. heads_of p) file_breach → m ≡ ended ending k
    → told_by (record { rounds = n; ending = m }) gs ps ≡ p
told p ending m n k fs gs os ps en room w ek place v is em = λ i. record { rounds = front n p.rounds fs gs en room w i; ending = end ending is em i }
  where
    end : (ending : Result (Unit {0}) FileFault) → p.ending ≡ ending_as ending (λ u. heads_of p) file_breach → m ≡ ended ending k → ending_by m ps ≡ p.ending
    end (Ok u) is em = ap (λ x. ending_by x ps) em ∙ ap Ok (front k (heads_of p) os ps ek place v) ∙ sym is
    end (Err f) is em = ap (λ x. ending_by x ps) em ∙ sym is

pub returns-clause-told : goal.returns-clause-told
returns-clause-told c =
    let p = played c.args.bytes.now in
    let is = c.in_ok-ending.ensures in
    told p c.in_ok-ending.ending c.map.result c.play_into.new.rounds.filled c.play_into.new.heads.filled c.args.rounds.now _ c.args.heads.now _
    (omega (arith, is.0.filled)) (omega (arith, is.0.room)) (search rules) (omega (arith, is.1.filled)) (omega (arith, is.1.room)) (search rules) is.2 (search rules)
