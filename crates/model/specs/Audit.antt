-- Reading a model as the code does it: in one pass that reads by the format and notes on its way, for each rule, the least
-- place at which it shows. Proofs tie it to the tree that is read and to the rules on that tree.
use Rattle.std.specs.Prelude.{◌≡◌, ℕ, zero, suc, min, Bool, true, false, cond, not, List, [], ◌∷◌, ◌++◌, length, Some, None, Option, ◌==◌, slice_set}
use Rattle.text.specs.Names.{identifier, dotted}
use Rattle.model.specs.declared.findings.Findings.{Findings}
use Rattle.model.specs.Tree.{Text, Module}
use Rattle.model.specs.Read.{Out, read, fault, bind, place, byte, text, fields, star_fields, count, bit, deepest_allowed, Head, head, constant_head, name_head, attr_head, binop_head, tuple_head, list_head, subscript_head, model}
use Rattle.model.specs.Rules.{well_formed, Item, record_name, dotted_name, literal, declared, module_items, broken_name, broken_value, empty_attribute, places_of, least}
use Rattle.model.specs.declared.files.File.{File}
use Rattle.model.specs.Files.{file, Held, held, entries, helds}

abbrev pub earlier : Option ℕ → ℕ → Option ℕ
earlier None p = Some p
earlier (Some q) p = Some (min q p)

abbrev pub note_name : ℕ → Bool → Findings → Findings
note_name p true f = f
note_name p false f = record { names = earlier f.names p; values = f.values; empty = f.empty }

abbrev pub note_value : ℕ → Bool → Findings → Findings
note_value p true f = f
note_value p false f = record { names = f.names; values = earlier f.values p; empty = f.empty }

abbrev pub note_empty : ℕ → Bool → Findings → Findings
note_empty p true f = f
note_empty p false f = record { names = f.names; values = f.values; empty = earlier f.empty p }

-- what the head of an expression at p shows
abbrev pub note_head : ℕ → Head → Findings → Findings
note_head p (constant_head c) f = note_value p (well_formed c) f
note_head p (name_head s) f = note_name p (dotted s) f
note_head p attr_head f = f
note_head p binop_head f = f
note_head p (tuple_head k) f = f
note_head p (list_head k) f = f
note_head p subscript_head f = f

-- k items, one behind the other
abbrev pub laps : {S : Type 0} → (List ℕ → S → Out S) → ℕ → List ℕ → S → Out S
laps one zero bs f = read f bs
laps one (suc k) bs f = bind (one bs f) (λ g r. laps one k r g)

abbrev pub audit_list : {S : Type 0} → ℕ → (List ℕ → S → Out S) → Bool → List ℕ → S → Out S
audit_list n one true bs f = bind (count n bs) (λ k r. laps one k r f)
audit_list n one false bs f = read f bs

abbrev pub audit_any : {S : Type 0} → (List ℕ → S → Out S) → Bool → List ℕ → S → Out S
audit_any one true bs f = one bs f
audit_any one false bs f = read f bs

abbrev pub audit_parts : ℕ → (List ℕ → Findings → Out Findings) → ℕ → Head → List ℕ → Findings → Out Findings
audit_parts n one p (constant_head c) bs f = read f bs
audit_parts n one p (name_head s) bs f = read f bs
audit_parts n one p attr_head bs f = bind (one bs f) (λ g r. bind (text n r) (λ s t. read (note_name p (dotted s) g) t))
audit_parts n one p binop_head bs f = bind (one bs f) (λ g r. one r g)
audit_parts n one p (tuple_head k) bs f = laps one k bs f
audit_parts n one p (list_head k) bs f = laps one k bs f
audit_parts n one p subscript_head bs f = bind (one bs f) (λ g r. one r g)

unfoldable pub audit_expr : ℕ → ℕ → List ℕ → Findings → Out Findings
audit_expr n zero bs f = fault (place n bs)
audit_expr n (suc d) bs f =
    bind (head n bs) (λ h r. audit_parts n (audit_expr n d) (place n bs) h r (note_head (place n bs) h f))

-- a name, which belongs to the record at p
abbrev pub audit_name : ℕ → ℕ → List ℕ → Findings → Out Findings
audit_name n p bs f = bind (text n bs) (λ s r. read (note_name p (identifier s) f) r)

-- the two expressions that a map of an attribute or an argument tells
abbrev pub audit_pair : ℕ → ℕ → ℕ → List ℕ → Findings → Out Findings
audit_pair n d m bs f = bind (audit_any (audit_expr n d) (bit m 1) bs f) (λ g r. audit_any (audit_expr n d) (bit m 2) r g)

abbrev pub audit_attribute : ℕ → ℕ → List ℕ → Findings → Out Findings
audit_attribute n d bs f =
    bind (fields n 4 bs) λ m r. bind (audit_name n (place n bs) r f) λ g s. audit_pair n d m s (note_empty (place n bs) (not (m == 0)) g)

abbrev pub audit_argument : ℕ → ℕ → List ℕ → Findings → Out Findings
audit_argument n d bs f =
    bind (fields n 4 bs) λ m r. bind (audit_name n (place n bs) r f) λ g s. audit_pair n d m s g

abbrev pub audit_star : ℕ → ℕ → List ℕ → Findings → Out Findings
audit_star n d bs f =
    bind (star_fields n bs) λ m r. bind (audit_name n (place n bs) r f) λ g s. audit_any (audit_expr n d) (bit m 2) s g

abbrev pub audit_exprs : ℕ → ℕ → Bool → List ℕ → Findings → Out Findings
audit_exprs n d = audit_list n (audit_expr n d)

abbrev pub audit_arguments : ℕ → ℕ → Bool → List ℕ → Findings → Out Findings
audit_arguments n d = audit_list n (audit_argument n d)

-- a function's parameters and what it returns, by its map
abbrev pub audit_parameters : ℕ → ℕ → ℕ → List ℕ → Findings → Out Findings
audit_parameters n d m bs f =
    bind (audit_arguments n d (bit m 2) bs f) λ g r. bind (audit_arguments n d (bit m 4) r g) λ h s. bind (audit_any (audit_star n d) (bit m 8) s h) λ i t. bind (audit_arguments n d (bit m 16) t i) λ j u. bind (audit_any (audit_star n d) (bit m 32) u j) λ k v. audit_any (audit_expr n d) (bit m 64) v k

abbrev pub audit_function : ℕ → ℕ → List ℕ → Findings → Out Findings
audit_function n d bs f =
    bind (fields n 128 bs) λ m r. bind (audit_name n (place n bs) r f) λ g s. bind (audit_exprs n d (bit m 1) s g) λ h t. audit_parameters n d m t h

abbrev pub audit_functions : ℕ → ℕ → Bool → List ℕ → Findings → Out Findings
audit_functions n d = audit_list n (audit_function n d)

abbrev pub audit_attributes : ℕ → ℕ → Bool → List ℕ → Findings → Out Findings
audit_attributes n d = audit_list n (audit_attribute n d)

-- what a class holds but its inner classes, by its map
abbrev pub audit_members : ℕ → ℕ → ℕ → List ℕ → Findings → Out Findings
audit_members n d m bs f =
    bind (audit_exprs n d (bit m 1) bs f) λ g r. bind (audit_functions n d (bit m 2) r g) λ h s. bind (audit_attributes n d (bit m 4) s h) λ i t. audit_exprs n d (bit m 8) t i

abbrev pub audit_class_over : ℕ → ℕ → (List ℕ → Findings → Out Findings) → List ℕ → Findings → Out Findings
audit_class_over n d one bs f =
    bind (fields n 32 bs) λ m r. bind (audit_name n (place n bs) r f) λ g s. bind (audit_members n d m s g) λ h t. audit_list n one (bit m 16) t h

unfoldable pub audit_class : ℕ → ℕ → List ℕ → Findings → Out Findings
audit_class n zero bs f = fault (place n bs)
audit_class n (suc d) bs f = audit_class_over n d (audit_class n d) bs f

abbrev pub audit_classes : ℕ → ℕ → Bool → List ℕ → Findings → Out Findings
audit_classes n d = audit_list n (audit_class n d)

-- a module's own declarations, by its map
abbrev pub audit_own : ℕ → ℕ → ℕ → List ℕ → Findings → Out Findings
audit_own n d m bs f =
    bind (audit_classes n d (bit m 2) bs f) λ g r. bind (audit_functions n d (bit m 4) r g) λ h s. audit_attributes n d (bit m 8) s h

-- what a pass over modules gathers: the findings, the files so far, and by whom each module is held
pub record Gathered : Type 0 where
  pub found : Findings
  pub files : List File
  pub siblings : List Held

-- a module opens: its name is judged, and it is listed, its own declarations still to be found
abbrev pub opened : ℕ → Option ℕ → Text → Gathered → Gathered
opened p h s g =
    record { found = note_name p (identifier s) g.found; files = g.files ++ file p h 0 ∷ []; siblings = g.siblings ++ held p h s ∷ [] }

-- a module's own declarations; its file, number k, learns where they start
abbrev pub audit_rest : ℕ → ℕ → ℕ → ℕ → (ℕ → File) → List ℕ → Gathered → Out Gathered
audit_rest n d m k made bs g =
    bind (audit_own n d m bs g.found) λ f r. read (record { found = f; files = slice_set g.files k (made (place n bs)); siblings = g.siblings }) r

-- a module whose submodules `one` reads, by the number of the file that holds them; what it holds may go d deep
abbrev pub audit_module_over : ℕ → ℕ → (Option ℕ → List ℕ → Gathered → Out Gathered) → Option ℕ → List ℕ → Gathered → Out Gathered
audit_module_over n d one h bs g =
    bind (fields n 16 bs) λ m r. bind (text n r) λ s t. bind (audit_list n (one (Some (length g.files))) (bit m 1) t (opened (place n bs) h s g)) λ e u. audit_rest n d m (length g.files) (file (place n bs) h) u e

unfoldable pub audit_module : ℕ → ℕ → Option ℕ → List ℕ → Gathered → Out Gathered
audit_module n zero h bs g = fault (place n bs)
audit_module n (suc d) h bs g = audit_module_over n d (audit_module n d) h bs g

abbrev pub nothing : Gathered
nothing = record { found = record { names = None; values = None; empty = None }; files = []; siblings = [] }

-- no byte more
abbrev pub audit_end : ℕ → Gathered → List ℕ → Out Gathered
audit_end n g [] = read g []
audit_end n g (b ∷ bs) = fault (place n (b ∷ bs))

abbrev pub audit_version : ℕ → ℕ → ℕ → List ℕ → Out Gathered
audit_version n p v bs = cond (v == 1) (bind (audit_module n deepest_allowed None bs nothing) (audit_end n)) (fault p)

abbrev pub audit : List ℕ → Out Gathered
audit bs = bind (byte (length bs) bs) (audit_version (length bs) (place (length bs) bs))

-- what an item adds to the findings
abbrev pub judge_item : Item → Findings → Findings
judge_item (record_name p s) f = note_name p (identifier s) f
judge_item (dotted_name p s) f = note_name p (dotted s) f
judge_item (literal p c) f = note_value p (well_formed c) f
judge_item (declared p b) f = note_empty p b f

abbrev pub judge_all : List Item → Findings → Findings
judge_all [] f = f
judge_all (i ∷ is) f = judge_all is (judge_item i f)

-- what a pass gathers of a module that file h holds, and of what is gathered of a whole model
abbrev pub gather_of : Option ℕ → Gathered → Module → Gathered
gather_of h g m =
    record { found = judge_all (module_items m) g.found; files = g.files ++ entries m (length g.files) h; siblings = g.siblings ++ helds m (length g.files) h }

abbrev pub gather_all : Module → Gathered
gather_all m = record { found = judge_all (module_items m) nothing.found; files = entries m 0 None; siblings = helds m 0 None }

abbrev pub map_out : {A B : Type 0} → (A → B) → Out A → Out B
map_out f (read a bs) = read (f a) bs
map_out f (fault p) = fault p

-- what there is to know of a tree: for each rule the least place at which an item breaks it, its files in short, and by whom
-- each module is held
abbrev pub summary : Module → Gathered
summary m =
    record { found = record { names = least (places_of broken_name (module_items m)); values = least (places_of broken_value (module_items m)); empty = least (places_of empty_attribute (module_items m)) }; files = entries m 0 None; siblings = helds m 0 None }

-- One pass gathers just what the tree that is read holds.
abbrev pub AuditsTree : Type 0
AuditsTree = (bs : List ℕ) → audit bs ≡ map_out summary (model bs)
