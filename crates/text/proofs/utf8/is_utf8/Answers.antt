-- `text::utf8::is_utf8` meets its contract: the run over the bytes that are folded is what the state owes. Assumes nothing.
use Rattle.std.proofs.Common.{◌≡◌, sym, ap, ◌∙◌, rules, []}
use Rattle.std.proofs.lemmas.Fn.{fold_over, fronts, slice_gives}
use Rattle.text.specs.Utf8.{Owed, owes, after, run, whole, is_utf8}
use Rattle.text.specs.Owes.{owed_of}
use Rattle.text.proofs.Scan.{run_none, run_more}
use Rattle.text.proofs.utf8.is_utf8.Goals as goal

pub returns : goal.returns
unfolding is_utf8
returns c =
    let i = c.iter.result in
    let all : i.rest.now ≡ c.args.s.now = cc in
    let run_is : run (owes []) i.rest.now ≡ owed_of c.fold.result =
    fold_over fronts (λ y. y.now) _ (λ s state. run (owes []) s ≡ owed_of state) _ (λ ys a x b f' j k. (run_more (owes []) ys x.now ∙ ap (λ (o : Owed). after o x.now) j ∙ search rules, search rules)) i i.rest.now _ c.fold.result (slice_gives i) (run_none (owes [])) c.fold.ensures.ran in
    c.is_whole.ensures ∙ ap whole (sym run_is) ∙ ap is_utf8 all
