-- What is printed of a text is printed of its front up to one byte past the limit: a longer one is refused. Assumes nothing.
use Rattle.std.specs.Prelude.{Err}
use Rattle.std.proofs.Common.{◌≡◌, ℕ, ◌<◌, Bool, true, false, List, length, take}
use Rattle.std.proofs.lemmas.List.{take_all, length-take-le}
use native.Mathlib.Omega.{arith}
use mathlib.Core.Path.{sym, ap, refl, ◌∙◌}
use lib.Dec.{ltb}
use borrow.Author.Tests.{lt-ltb, ltb-true, ltb-false}
use Rattle.refusals.specs.Refusals.{numbers_of}
use Rattle.refusals.specs.declared.Refusal.TheVariants.{TextTooLong}
use Rattle.writing.specs.Refused.{refused_text}
use Rattle.tokenizer.specs.Answers.{text_limit, tokenized}
use Rattle.tokens.specs.Printed.{printed}

long : (s : List ℕ) → text_limit < length s → tokenized s 32768 ≡ Err TextTooLong
unfolding tokenized
long s h = rw (lt-ltb text_limit (length s) h) refl

refused : (s : List ℕ) → text_limit < length s → printed s ≡ refused_text (numbers_of TextTooLong)
unfolding printed
refused s h = rw (long s h) refl

pub printed_front : (s : List ℕ) → printed (take 65537 s) ≡ printed s
printed_front s = go (ltb text_limit (length s)) refl
  where
    go : (b : Bool) → ltb text_limit (length s) ≡ b → printed (take 65537 s) ≡ printed s
    go true e =
        let h = ltb-true text_limit (length s) e in
        let n = length-take-le 65537 s (omega arith) in
        refused (take 65537 s) (omega arith) ∙ sym (refused s h)
    go false e = let h = ltb-false _ _ e in ap printed (take_all 65537 s (omega arith))
