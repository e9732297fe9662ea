-- The lines of a listing, value by value.
use Rattle.std.proofs.Common.{◌≡◌, ℕ, ◌+◌, ◌<◌, List, [], ◌∷◌, ◌++◌, length, get_or, drop, Some, None, Option, decimal, refl, ap, ◌∙◌, append_assoc}
use Rattle.sinks.proofs.Givens.{drop_step}
use Rattle.ballots.specs.Faults.{Breach}
use Rattle.votes.specs.declared.stages.Figures.{Figures}
use Rattle.recordings.specs.declared.listing.Outcome.{Outcome}
use Rattle.recordings.specs.declared.listing.Outcome.TheVariants.{Running, Stopped, Decided}
use Rattle.listings.specs.declared.lines.Value.{Value}
use Rattle.listings.specs.declared.lines.Value.TheVariants.{Number}
use Rattle.listings.specs.Texts.{◌▹◌, or_dash, round_line, head_line, refusal_line, round_lines, head_lines}
use Rattle.listings.specs.Values.{value_text, values_text, line_text, value_of, letter_of, code_of}

-- a letter and five texts
line : ℕ → List ℕ → List ℕ → List ℕ → List ℕ → List ℕ → List ℕ
line l a b c d e = l ∷ (((32 ∷ a) ++ ((32 ∷ b) ++ ((32 ∷ c) ++ ((32 ∷ d) ++ ((32 ∷ e) ++ []))))) ++ (10 ∷ []))

line_is : (l : ℕ) (a b c d e : List ℕ) → line l a b c d e ≡ ((l ∷ []) ▹ a ▹ b ▹ c ▹ d ▹ e) ++ (10 ∷ [])
unfolding line
line_is l a b c d e = simp append_assoc

pub round_is : (f : Figures) → line_text 82 (Number f.round ∷ Number f.senders ∷ Number f.alarms ∷ Number f.decided ∷ Number f.running ∷ []) ≡ round_line f
unfolding line round_line
round_is f = line_is 82 (decimal f.round) (decimal f.senders) (decimal f.alarms) (decimal f.decided) (decimal f.running)

pub head_is : (i : ℕ) (o : Outcome) → line_text 72 (Number i ∷ letter_of o ∷ code_of o ∷ []) ≡ head_line i o
unfolding head_line
head_is i Running = simp append_assoc
head_is i Stopped = simp append_assoc
head_is i (Decided code) = simp append_assoc

value_is : (x : Option ℕ) → value_text (value_of x) ≡ or_dash x
value_is (Some n) = refl
value_is None = refl

pub refusal_is : (byte : Option ℕ) (b : Breach) → line_text 70 (Number b.number ∷ value_of byte ∷ value_of b.round ∷ value_of b.head ∷ value_of b.other ∷ []) ≡ refusal_line byte b
unfolding line refusal_line
refusal_is byte b =
    (λ i. line 70 (decimal b.number) (value_is byte i) (value_is b.round i) (value_is b.head i) (value_is b.other i))
    ∙ line_is 70 (decimal b.number) (or_dash byte) (or_dash b.round) (or_dash b.head) (or_dash b.other)

-- ---- what a loop has still to write

pub values_step : (vs : List Value) (i : ℕ) (d : Value) → i < length vs
    → values_text (drop i vs) ++ (10 ∷ []) ≡ (32 ∷ []) ++ (value_text (get_or vs i d) ++ (values_text (drop (i + 1) vs) ++ (10 ∷ [])))
values_step vs i d h =
    ap (λ ws. values_text ws ++ (10 ∷ [])) (drop_step vs i d h)
    ∙ ap (λ x. 32 ∷ x) (append_assoc (value_text (get_or vs i d)) (values_text (drop (i + 1) vs)) (10 ∷ []))

pub rounds_step : (fs : List Figures) (i : ℕ) (d : Figures) → i < length fs → round_lines (drop i fs) ≡ round_line (get_or fs i d) ++ round_lines (drop (i + 1) fs)
unfolding round_lines
rounds_step fs i d h = ap round_lines (drop_step fs i d h)

pub heads_step : (os : List Outcome) (i : ℕ) (d : Outcome) → i < length os → head_lines i (drop i os) ≡ head_line i (get_or os i d) ++ head_lines (i + 1) (drop (i + 1) os)
unfolding head_lines
heads_step os i d h = ap (head_lines i) (drop_step os i d h)
