-- The C form of a table and the table are inverses of each other. Assumes nothing.
use Rattle.std.proofs.Common.{Option, Some, None}
use Prim.Native.Nat.{ℕ}
use mathlib.Core.Path.{◌≡◌, refl, sym, ap}
use mathlib.Core.Bool.{Bool, true, false}
use borrow.Author.Tests.{eqb-true}
use Rattle.nbr_table_spec.specs.Calls.{id_of, mark_of}
use Rattle.c_table_spec.specs.Table.{is_parent, parent_of}
use Rattle.c_table_spec.specs.Claims.{FormsAreTables, TablesAreForms}

-- ---- the held parent
pub parent_back : (parent : Option ℕ) → parent_of (mark_of parent) (id_of parent) ≡ parent
unfolding parent_of mark_of id_of
parent_back None = refl
parent_back (Some id) = refl

is_parent_lem : (parent : Option ℕ) → is_parent (mark_of parent) (id_of parent) ≡ true
unfolding mark_of id_of is_parent
is_parent_lem None = refl
is_parent_lem (Some id) = refl

pub mark_back : (held : Bool) (id : ℕ) → mark_of (parent_of held id) ≡ held
unfolding parent_of mark_of
mark_back true id = refl
mark_back false id = refl

pub id_back : (held : Bool) (id : ℕ) → is_parent held id ≡ true → id_of (parent_of held id) ≡ id
unfolding parent_of id_of is_parent
id_back true id h = refl
id_back false id h = sym (eqb-true id 0 h)

-- ---- the table
pub forms_are_tables : FormsAreTables
forms_are_tables table = (ap (λ (parent : Option ℕ). record { places = table.places; parent = parent }) (parent_back table.parent), is_parent_lem table.parent)

pub tables_are_forms : TablesAreForms
tables_are_forms form h = λ i. record { places = form.places; held = mark_back form.held form.parent i; parent = id_back form.held form.parent h i }
