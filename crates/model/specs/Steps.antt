-- How an answer of the code and the bytes then left tell an outcome of reading.
use Rattle.std.specs.Prelude.{◌≡◌, ℕ, List, [], map, Ok, Err, vec_items, Result}
use Rattle.std.specs.Borrow.{Bor, MutBor}
use Rattle.model.specs.declared.cursor.Cursor.{Cursor}
use Rattle.model.specs.declared.reader.Reader.{Reader}
use Rattle.model.specs.declared.modules.Lister.{Lister}
use Rattle.model.specs.declared.fault.Layout.{Layout}
use Rattle.model.specs.declared.fault.Fault.{Fault}
use Rattle.model.specs.declared.fault.Fault.TheVariants.{Broken, Memory}
use Rattle.model.specs.declared.findings.Findings.{Findings}
use Rattle.model.specs.declared.files.File.{File}
use Rattle.model.specs.declared.files.Listed.{Listed}
use Rattle.model.specs.declared.files.Listing.{Listing}
use Rattle.model.specs.Files.{Held, held}
use Rattle.model.specs.declared.uses.Use.{Use as UseOf}
use Rattle.model.specs.declared.uses.Declared.{Declared as DeclaredOf}
use Rattle.model.specs.Uses.{Use, use', Declared}
use Rattle.model.specs.declared.read.Audit.{Audit as AuditOf}
use Rattle.model.specs.Audit.{Gathered, audit, map_out, summary}
use Rattle.model.specs.declared.expression.Expression.{Expression}
use Rattle.model.specs.declared.expression.Expression.TheVariants.{None, False, True, Int, Float, Str, Ellipsis, Name, Attribute, BinOp, Tuple, List as ListOf, Subscript}
use Rattle.model.specs.Tree.{Text, py_none, py_false, py_true, int, float, str, ellipsis}
use Rattle.model.specs.Read.{Out, read, fault, Head, constant_head, name_head, attr_head, binop_head, tuple_head, list_head, subscript_head, model}

abbrev pub as_is : ℕ → ℕ
as_is k = k

-- what `one` read of the bytes before, seen as v, and the cursor went on behind it, in the same model
pub record Passed {A : Type 0} (one : List ℕ → Out A) (v : A) (before after : Cursor) : Type 0 where
  pub is : one before.rest.now ≡ read v after.rest.now
  pub end : after.end ≡ before.end

-- the code's value, seen through f, was read, and the cursor went on; or the fault is at its place
abbrev pub Steps : {T A : Type 0} → (T → A) → Cursor → Cursor → Result T Layout → (List ℕ → Out A) → Type 0
Steps f before after (Ok v) one = Passed one (f v) before after
Steps f before after (Err e) one = one before.rest.now ≡ fault e.place

-- the same of a text that is a part of the model
abbrev pub Takes : Cursor → Cursor → Result (Bor (List ℕ)) Layout → (List ℕ → Out Text) → Type 0
Takes before after (Ok s) one = Passed one s.now before after
Takes before after (Err e) one = one before.rest.now ≡ fault e.place

abbrev pub head_of : Expression → Head
head_of None = constant_head py_none
head_of False = constant_head py_false
head_of True = constant_head py_true
head_of (Int s) = constant_head (int s.now)
head_of (Float s) = constant_head (float s.now)
head_of (Str s) = constant_head (str s.now)
head_of Ellipsis = constant_head ellipsis
head_of (Name s) = name_head s.now
head_of Attribute = attr_head
head_of BinOp = binop_head
head_of (Tuple k) = tuple_head k
head_of (ListOf k) = list_head k
head_of Subscript = subscript_head

-- a pass that notes as it reads went on, in the same model; or the fault is at its place
pub record Went {S : Type 0} (one : List ℕ → S → Out S) (before after : Cursor) (f g : S) : Type 0 where
  pub is : one before.rest.now f ≡ read g after.rest.now
  pub end : after.end ≡ before.end

abbrev pub Goes : {T : Type 0} → Reader → Reader → Result T Layout → (List ℕ → Findings → Out Findings) → Type 0
Goes before after (Ok v) one = Went one before.at after.at before.found after.found
Goes before after (Err e) one = one before.at.rest.now before.found ≡ fault e.place

-- each call reads as `one` says, in a model of whatever length
abbrev pub CallsGo : (MutBor Reader → Result (Unit {0}) Layout → MutBor Reader → Type 0) → (ℕ → List ℕ → Findings → Out Findings) → Type 0
CallsGo post one = (x y : MutBor Reader) (r : Result (Unit {0}) Layout) → post x r y → Goes x.now y.now r (one x.now.at.end)

abbrev pub file_of : Listed → File
file_of x = x.file

abbrev pub held_of : Listed → Held
held_of x = held x.file.place x.file.holder x.name.now

-- what the code has gathered
abbrev pub gathered : Findings → Listing → Gathered
gathered found list = record { found = found; files = map file_of (vec_items list.modules); siblings = map held_of (vec_items list.modules) }

-- the same of a pass that may lack memory, of which it then says nothing
abbrev pub Gathers : {T : Type 0} → Lister → Lister → Result T Fault → (List ℕ → Gathered → Out Gathered) → Type 0
Gathers before after (Ok v) one = Went one before.reader.at after.reader.at (gathered before.reader.found before.list) (gathered after.reader.found after.list)
Gathers before after (Err (Broken e)) one = one before.reader.at.rest.now (gathered before.reader.found before.list) ≡ fault e.place
Gathers before after (Err Memory) one = Unit {0}

-- what a reference and a declared name of the code stand for
abbrev pub use_of : UseOf → Use
use_of u = use' u.place u.reference.from.now u.reference.name.now

abbrev pub declared_of : DeclaredOf → Declared
declared_of d = record { place = d.place; name = d.name.now }

-- what one pass over a whole model answers
abbrev pub Audits : List ℕ → Result AuditOf Fault → Type 0
Audits bs (Ok a) = audit bs ≡ read (gathered a.found a.list) []
Audits bs (Err (Broken e)) = audit bs ≡ fault e.place
Audits bs (Err Memory) = Unit {0}

-- the same in terms of the tree that is read
abbrev pub Reads : List ℕ → Result AuditOf Fault → Type 0
Reads bs (Ok a) = map_out summary (model bs) ≡ read (gathered a.found a.list) []
Reads bs (Err (Broken e)) = model bs ≡ fault e.place
Reads bs (Err Memory) = Unit {0}
