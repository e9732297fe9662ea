-- One text after another.
use Rattle.std.proofs.Common.{◌≡◌, ℕ, zero, suc, ◌+◌, ◌<◌, List, [], ◌∷◌, ◌++◌, length, get_or, take, sym, ap, ◌∙◌, append_assoc, append-nil, arith}
use Rattle.votes.specs.declared.stages.Figures.{Figures}
use Rattle.recordings.specs.declared.listing.Outcome.{Outcome}
use Rattle.listings.specs.Texts.{round_line, round_lines, head_line, head_lines}

-- v holds w and then a, u holds v and then b
pub more : {v u : List ℕ} (w a b : List ℕ) → v ≡ w ++ a → u ≡ v ++ b → u ≡ w ++ (a ++ b)
more w a b e f = f ∙ ap (λ x. x ++ b) e ∙ append_assoc w a b

pub rounds_none : (fs : List Figures) (w : List ℕ) → w ≡ w ++ round_lines (take 0 fs)
unfolding round_lines
rounds_none fs w = sym (append-nil w)

pub rounds_more : (fs : List Figures) (i : ℕ) (d : Figures) → i < length fs → round_lines (take (i + 1) fs) ≡ round_lines (take i fs) ++ round_line (get_or fs i d)
unfolding round_lines
rounds_more fs i d h = let s : i + 1 ≡ suc i = omega arith in rw s (go fs i h)
  where
    go : (fs : List Figures) (i : ℕ) → i < length fs → round_lines (take (suc i) fs) ≡ round_lines (take i fs) ++ round_line (get_or fs i d)
    go [] i h = absurd (omega arith)
    go (f ∷ fs) zero h = append-nil (round_line f)
    go (f ∷ fs) (suc i) h = ap (λ x. round_line f ++ x) (go fs i (omega arith)) ∙ sym (append_assoc (round_line f) (round_lines (take i fs)) (round_line (get_or fs i d)))

pub heads_none : (os : List Outcome) (w : List ℕ) → w ≡ w ++ head_lines 0 (take 0 os)
unfolding head_lines
heads_none os w = sym (append-nil w)

pub heads_more : (os : List Outcome) (i : ℕ) (d : Outcome) → i < length os → head_lines 0 (take (i + 1) os) ≡ head_lines 0 (take i os) ++ head_line i (get_or os i d)
unfolding head_lines
heads_more os i d h = let s : i + 1 ≡ suc i = omega arith in let z : 0 + i ≡ i = omega arith in rw s (go 0 os i h ∙ ap (λ (k : ℕ). head_lines 0 (take i os) ++ head_line k (get_or os i d)) z)
  where
    go : (j : ℕ) (os : List Outcome) (i : ℕ) → i < length os → head_lines j (take (suc i) os) ≡ head_lines j (take i os) ++ head_line (j + i) (get_or os i d)
    go j [] i h = absurd (omega arith)
    go j (o ∷ os) zero h = let z : j + 0 ≡ j = omega arith in append-nil (head_line j o) ∙ ap (λ (k : ℕ). head_line k o) (sym z)
    go j (o ∷ os) (suc i) h =
        let z : (j + 1) + i ≡ j + suc i = omega arith in
        ap (λ x. head_line j o ++ x) (go (j + 1) os i (omega arith) ∙ ap (λ (k : ℕ). head_lines (j + 1) (take i os) ++ head_line k (get_or os i d)) z)
        ∙ sym (append_assoc (head_line j o) (head_lines (j + 1) (take i os)) (head_line (j + suc i) (get_or os i d)))
