use Rattle.std.proofs.Common.{length, vec_items, vec_len, sym, refl, ap, ◌∙◌, subst, arith}
use Rattle.model.specs.Read.{model}
use Rattle.verdict.specs.Judged.{files_of}
use Rattle.std.proofs.lemmas.Bool.{eqb-true, eqb-false}
use Rattle.session.specs.Local.{Answers, local_of}
use Rattle.session.proofs.Locals.{no_model, past_files}
use Rattle.session.proofs.state.Session.local.Goals as goal

pub returns-then-is_empty : goal.returns-then-is_empty
returns-then-is_empty c =
    (no_model (vec_items c.args.self.now.bytes) c.args.file _ _ (sym c.args.self.now.bytes.ok.0 ∙ eqb-true (vec_len c.args.self.now.bytes) 0 (sym c.if-is_empty.ensures)), refl)

pub returns-then-file-len : goal.returns-then-file-len
returns-then-file-len c = (
  past_files (vec_items c.args.self.now.bytes) (vec_items c.args.self.now.files) c.len.result c.args.file _ _
      (λ z. eqb-false (vec_len c.args.self.now.bytes) 0 (sym c.if-is_empty.ensures) (c.args.self.now.bytes.ok.0 ∙ z)) c.args.self.now.listed (c.len.ensures ∙ c.args.self.now.files.ok.0) c.if-file-len.true,
  refl,
)

pub local_in-requires : goal.local_in-requires
local_in-requires c =
    record {
      listed = c.as_slice-files.ensures.value ∙ c.args.self.now.listed ∙ ap (λ bs. files_of (model bs)) (sym c.as_slice-model.ensures.value);
      there = omega (arith, c.as_slice-files.ensures.len, c.len.ensures, c.if-file-len.false);
    }

pub returns : goal.returns
returns c =
    subst (λ bs. Answers (local_of bs c.args.file (c.args.module.now, c.args.attribute.now) (length c.args.buffer.now)) c.local_in.result c.args.buffer.now c.local_in.new.buffer)
    c.as_slice-model.ensures.value c.local_in.ensures
