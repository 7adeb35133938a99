use Rattle.std.proofs.Common.{arith}
use Rattle.std.proofs.lemmas.Bool.Decides.{Decides-at, nat_tests, same_from_decides}
use Rattle.text.proofs.Utf8Decided.{utf8-Decides}
use Rattle.text.proofs.Utf8Encoded.{Decides-from_utf8}
use Rattle.text.proofs.utf8.is_utf8.Goals as goal

-- The answer names no more than the reader's calls, so that whatever else the body does is judged by its value.
pub returns : goal.returns
returns c =
    let reads = Decides-at _ _ c.is_ok.ensures.value (Decides-from_utf8 _ _ _ c.from_utf8.result c.from_utf8.ensures.cases) in
    let value = same_from_decides _ _ reads (utf8-Decides _) in
    record { value = grind (arith, nat_tests, value); decides = Decides-at _ _ (grind (arith, nat_tests, value)) (utf8-Decides c.args.s.now) }
