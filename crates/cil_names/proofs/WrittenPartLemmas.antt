-- Terms as their parts, each word as it takes part in a policy.
use Rattle.std.specs.Global.{Vec}
use Rattle.std.proofs.Common.{◌≡◌, ℕ, List, [], ◌∷◌, ◌++◌, refl, sym, ◌∙◌, ap}
use Rattle.cil_faults.specs.declared.spot.Spot.{Spot}
use Rattle.cil_faults.specs.Spots.{spot_at}
use Rattle.cil_syntax.specs.declared.term.LookedUp.{LookedUp}
use Rattle.cil_syntax.specs.declared.term.Op.{Op}
use Rattle.cil_syntax.specs.declared.term.Term as rust
use Rattle.cil_syntax.specs.declared.term.Word.{Word}
use Rattle.cil_syntax.specs.Said.{word_in}
use Rattle.cil_syntax.specs.Scopes.{ScopedWord}
use Rattle.cil_syntax.specs.Terms.{nil}
use Rattle.cil_macros.specs.declared.listed.Part as kept_part
use Rattle.cil_macros.specs.declared.listed.Part.TheVariants as kept_parts
use Rattle.cil_macros.specs.declared.placed_word.PlacedWord.{PlacedWord}
use Rattle.cil_macros.specs.Item.{all_replaced}
use Rattle.cil_macros.specs.Items.{scoped_by}
use Rattle.cil_macros.specs.Listed.{Part, all_parts_of, parts_of, parts_there, text, word as part_word}
use Rattle.cil_macros.specs.Placed.{Placed}
use Rattle.cil_macros.proofs.PartLemmas.{behind_there, between}
use Rattle.cil_names.specs.Unresolved.{term_with, terms_with}
use Rattle.cil_names.proofs.UnresolvedLemmas.{scoped_form, scoped_leaf, scoped_name}

pub no_parts : all_parts_of nil ≡ []
unfolding parts_of
no_parts = refl

module _ (f : Word → ScopedWord) (m : ℕ) where
  abbrev pub parts_at : rust.Term → List Part
  parts_at t = parts_of (term_with f m t)

  abbrev pub all_parts_at : List rust.Term → List Part
  all_parts_at ts = all_parts_of (terms_with f m ts)

  pub none_parts : all_parts_at [] ≡ []
  unfolding parts_of all_replaced
  none_parts = refl

  pub more_parts : (t : rust.Term) (ts : List rust.Term) → all_parts_at (t ∷ ts) ≡ parts_at t ++ all_parts_at ts
  unfolding parts_of all_replaced
  more_parts t ts = refl

  -- the parts of one term are put behind others
  module _ (ps : List Placed) (t : rust.Term) (old new : List kept_part.Part) where
    pub leaf_written : (w : LookedUp) → t ≡ rust.Leaf w → (v : PlacedWord) → scoped_by ps v ≡ f (word_in m w) → new ≡ old ++ kept_parts.Word v ∷ []
        → parts_there ps new ≡ parts_there ps old ++ parts_at t
    unfolding parts_of
    leaf_written w is v so e =
        behind_there ps old (kept_parts.Word v ∷ []) new e
        ∙ ap (λ (x : ScopedWord). parts_there ps old ++ part_word x ∷ []) so
        ∙ ap (λ u. parts_there ps old ++ parts_of u) (sym (scoped_leaf f [] m t w is))

    pub name_written : (at : ℕ) (bytes : List ℕ) → t ≡ rust.Name at bytes → (spot : Spot) (said : List ℕ) → spot ≡ spot_at m at → said ≡ bytes → new ≡ old ++ kept_parts.Text spot said ∷ []
        → parts_there ps new ≡ parts_there ps old ++ parts_at t
    unfolding parts_of
    name_written at bytes is spot said there same e =
        behind_there ps old (kept_parts.Text spot said ∷ []) new e
        ∙ (λ i. parts_there ps old ++ text (there i) (same i) ∷ [])
        ∙ ap (λ u. parts_there ps old ++ parts_of u) (sym (scoped_name f [] m t at bytes is))

    pub form_written : (at : ℕ) (op : Op) (parts : Vec rust.Term) → t ≡ rust.Form op at parts → (items : List rust.Term) → items ≡ parts.items → (first more : List kept_part.Part)
        → first ≡ old ++ kept_parts.Opens (spot_at m at) op ∷ [] → parts_there ps more ≡ parts_there ps first ++ all_parts_at items → new ≡ more ++ kept_parts.Closes ∷ []
        → parts_there ps new ≡ parts_there ps old ++ parts_at t
    form_written at op parts is items same first more begins inside ends =
        between ps (spot_at m at) op old first more new (terms_with f m parts.items) begins (inside ∙ ap (λ us. parts_there ps first ++ all_parts_at us) same) ends
        ∙ ap (λ u. parts_there ps old ++ parts_of u) (sym (scoped_form f [] m t at op parts is))

-- behind nothing
pub parts_alone : (ps : List Placed) (old new : List kept_part.Part) (more : List Part) → old ≡ [] → parts_there ps new ≡ parts_there ps old ++ more → parts_there ps new ≡ more
parts_alone ps old new more none e = e ∙ ap (λ l. parts_there ps l ++ more) none
