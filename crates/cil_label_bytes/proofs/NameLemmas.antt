-- Names that are kept as keys of a set, as their list.
use Rattle.std.proofs.Common.{◌≡◌, ℕ, Bool, true, false, cond, List, [], ◌∷◌, ◌++◌, refl, sym, ap, ◌∙◌}
use Rattle.std.specs.Prelude.{not}
use Rattle.std.specs.Borrow.{Bor}
use Rattle.std.specs.List.{list_any}
use Rattle.std.proofs.lemmas.List.{map-append}
use Rattle.indexmap.specs.IndexSet.{insert_key}
use Rattle.cil_base.specs.Searches.{any_map}
use Rattle.cil_syntax.specs.Spelling.{same_bytes}
use Rattle.cil_label_bytes.specs.Keys.{texts_of}
use Rattle.cil_label_bytes.specs.Layout.{is_new}

abbrev pub same_key : Bor (List ℕ) → Bor (List ℕ) → Bool
same_key a b = same_bytes a.now b.now

-- a name is among the keys just where it is among their texts
pub lacks_is : (keys : List (Bor (List ℕ))) (name : Bor (List ℕ)) → not (list_any (same_key name) keys) ≡ is_new (texts_of keys) name.now
lacks_is keys name = ap not (sym (any_map (λ (k : Bor (List ℕ)). k.now) (same_bytes name.now) keys))

none_known : (b : Bool) → not b ≡ true → b ≡ false
none_known true e = absurd cc
none_known false e = refl

-- a name that is new goes last
pub one_added : (keys new : List (Bor (List ℕ))) (name : Bor (List ℕ)) → is_new (texts_of keys) name.now ≡ true → new ≡ insert_key same_key keys name
    → texts_of new ≡ texts_of keys ++ name.now ∷ []
one_added keys new name fresh is =
    let none : list_any (same_key name) keys ≡ false = none_known (list_any (same_key name) keys) (lacks_is keys name ∙ fresh) in
    let last : new ≡ keys ++ name ∷ [] = is ∙ ap (λ b. cond b keys (keys ++ name ∷ [])) none in
    ap texts_of last ∙ map-append _ keys (name ∷ [])
