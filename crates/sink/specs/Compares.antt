-- What a sink that compares means.
use Rattle.std.specs.Prelude.{ℕ, List, take, drop}
use Rattle.sink.specs.Texts.{lines_in, Matching}
use Rattle.sink.specs.declared.compare.ComparingSink.{ComparingSink}

abbrev pub expected_text : ComparingSink → List ℕ
expected_text s = s.expected.now

-- the lines of what has come
abbrev pub compared_taken : ComparingSink → List (List ℕ)
compared_taken s = lines_in (take s.at (expected_text s))

-- what has not come yet
abbrev pub expected_rest : ComparingSink → List ℕ
expected_rest s = drop s.at (expected_text s)

abbrev pub compared_takes : ComparingSink → List (List ℕ) → Type 0
compared_takes s = Matching (expected_rest s)
