-- What putting a test to every item of a list says: the limits of the links and the timings are such tests (docs/RULES.md, Writing). Assumes nothing.
use Rattle.std.specs.Prelude.{◌≡◌, Bool, List}
use Rattle.std.specs.List.{list_all}

-- the answer is that of any predicate with which the test agrees, put to the whole list
abbrev pub TestedBy : {A : Type 0} → (A → Bool → Type 0) → List A → Bool → Type 0
TestedBy {A} answers items answer = (holds : A → Bool) → ((item : A) (said : Bool) → answers item said → said ≡ holds item) → answer ≡ list_all holds items
