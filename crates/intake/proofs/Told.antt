-- What a program has told of all that a reader had left, where it has told of the front that it read. Assumes nothing.
use Rattle.std.proofs.Common.{◌≡◌, ℕ, List, [], ◌++◌, length, take, OnOk, IfSome, Ok, Err, Some, None}
use Rattle.std.proofs.Math.Seq.{take-append_seam}
use mathlib.Core.Path.{sym, ap, ◌∙◌}
use mathlib.Core.List.{append_assoc, append-nil}
use Rattle.std.specs.Io.KnownBytes.{Appends}
use Rattle.std.specs.declared.result.Result.{Result}
use Rattle.std.specs.declared.option.Option.{Option}
use Rattle.writing.specs.Placed.{Whole}

-- the part of the buffer that is handed on is the text
pub whole_front : {text old new : List ℕ} {r : ℕ} → Whole text old new r → take r new ≡ text
whole_front {text = text} {old = old} {new = new} w =
    ap (λ (k : ℕ). take k new) w.size ∙ ap (take (length text)) w.contents ∙ take-append_seam text _

-- nothing told
pub told_none : (o : Option (List ℕ)) → Appends o o []
told_none None = tt
told_none (Some xs) = sym (append-nil xs)

-- one text told after another
pub told_both : (old between new : Option (List ℕ)) (a b : List ℕ) → Appends old between a → Appends between new b → Appends old new (a ++ b)
told_both None between new a b p q = tt
told_both (Some xs) None new a b p q = absurd p
told_both (Some xs) (Some ys) None a b p q = absurd q
told_both (Some xs) (Some ys) (Some zs) a b p q = q ∙ ap (λ (l : List ℕ). l ++ b) p ∙ append_assoc xs a b

-- the text told of the front is that of the whole
pub told_now : (old new left : Option (List ℕ)) {written read : List ℕ} (text : List ℕ → List ℕ) (n : ℕ)
    → Appends old new written → written ≡ text read → IfSome left (λ xs. read ≡ take n xs)
    → ((xs : List ℕ) → text (take n xs) ≡ text xs) → IfSome left (λ xs. Appends old new (text xs))
told_now old new (Some xs) text n a w e f = rw (sym (w ∙ ap text e ∙ f xs)) a
told_now old new None text n a w e f = tt

pub told_of : {T E : Type 0} (r : Result T E) (old new left : Option (List ℕ)) {written read : List ℕ} (text : List ℕ → List ℕ) (n : ℕ)
    → OnOk r (Appends old new written) → written ≡ text read → IfSome left (λ xs. read ≡ take n xs)
    → ((xs : List ℕ) → text (take n xs) ≡ text xs) → OnOk r (IfSome left (λ xs. Appends old new (text xs)))
told_of (Ok x) old new left text n a w e f = told_now old new left text n a w e f
told_of (Err x) old new left text n a w e f = tt

-- what holds however the last call ends
pub told_before : {T E : Type 0} {P : Type 0} (r : Result T E) → P → OnOk r P
told_before (Ok x) p = p
told_before (Err x) p = tt
