-- Whether a statement declares something, by its keyword and its name.
use Rattle.std.specs.Prelude.{Contains, None}
use Rattle.std.proofs.Common.{◌≡◌, ℕ, true, false, List, [], ◌∷◌, refl, sym, ap, subst, ◌∙◌}
use Rattle.cil_base.specs.Lists.{contains_here}
use Rattle.cil_syntax.specs.declared.kind.Kind.{Kind}
use Rattle.cil_syntax.specs.declared.program.Statement as rust
use Rattle.cil_faults.specs.declared.spot.Spot.{Spot}
use Rattle.cil_syntax.specs.Forms.{BeginsWithName, name_in_front}
use Rattle.cil_syntax.specs.Program.{statement_of}
use Rattle.cil_syntax.specs.Said.{args_of}
use Rattle.cil_syntax.specs.Table.{entry_of}
use Rattle.cil_syntax.specs.Terms.{Name, cons}
use Rattle.cil_macros.specs.Items.{Kept, item_at, says_as_written}
use Rattle.cil_names.specs.Declarations.{Declaration, declarations, declared_by}
use Rattle.cil_names.proofs.DeclaringLemmas.{begins_there, declares_written, keyword_there, no_front, there, without_kind, without_name}
use Rattle.cil_optionals.specs.Counts.{declares, is_some_of}

-- a list without a member has none
is_none : (ds : List Declaration) → ((d : Declaration) → Contains ds d → ⊥) → false ≡ is_some_of ds
is_none [] none = refl
is_none (d ∷ ds) none = absurd (none d (contains_here d ds))

module _ (i : Kept) (k : ℕ) where
  module _ (s : rust.Statement) (is : statement_of s ≡ there i k) where
    kinds_there : (entry_of s.keyword).declares ≡ (entry_of (item_at i k).keyword).declares
    kinds_there = ap (λ w. (entry_of w).declares) (keyword_there i k s is)

    pub no_kind : (entry_of s.keyword).declares ≡ [] → false ≡ declares (item_at i k)
    no_kind e = is_none (declared_by (item_at i k)) (without_kind (item_at i k) (sym kinds_there ∙ e))

    module _ (kind : Kind) (e : (entry_of s.keyword).declares ≡ kind ∷ []) where
      kind_there : (entry_of (item_at i k).keyword).declares ≡ kind ∷ []
      kind_there = sym kinds_there ∙ e

      declared : Contains (entry_of (item_at i k).keyword).declares kind
      declared = subst (λ ks. Contains ks kind) (sym kind_there) (contains_here kind [])

      written : says_as_written (item_at i k).keyword ≡ true
      written = declares_written (item_at i k).keyword kind declared

      pub no_name : name_in_front (args_of s) ≡ None → false ≡ declares (item_at i k)
      no_name none = is_none (declared_by (item_at i k)) (without_name (item_at i k) (no_front i k s is written none))

      pub declares_one : (at : Spot) (name : List ℕ) → BeginsWithName (args_of s) at name → true ≡ declares (item_at i k)
      declares_one at name begins =
          let here = begins_there i k s is written at name begins in
          sym (
          ap (λ args. is_some_of (declarations (item_at i k).space (entry_of (item_at i k).keyword).declares args)) here.1
          ∙ ap (λ ks. is_some_of (declarations (item_at i k).space ks (cons (Name at name) here.0))) kind_there
          )
