-- What the writers put are the sections.
use Rattle.std.proofs.Common.{◌≡◌, ℕ, Bool, true, false, List, [], ◌∷◌, ◌++◌, length, refl, sym, ap, ◌∙◌, append_assoc}
use Rattle.std.specs.Prelude.{OnOk, Result, Ok, Err}
use Rattle.std.specs.Int.{w32, to_be_bytes}
use Rattle.std.specs.List.{flat_map}
use Rattle.std.proofs.lemmas.List.Concat.{flat_map-cons}
use Rattle.cil_base.specs.declared.memory.NoMemory.{NoMemory}
use Rattle.cil_mls.specs.declared.categories.Categories.{Categories}
use Rattle.cil_mls.specs.declared.level.Range.{Range}
use Rattle.cil_format.specs.Fields.{text}
use Rattle.cil_format.specs.Format.{Format, each_spelled}
use Rattle.cil_label_bytes.specs.Layout.{LabelNames, aliases, categories, labels, new_name, sensitivities, sensitivity, users, zipped}

-- ---- lists in which each value has a format of its own

module _ {A : Type 0} (format : List A → Format A) where
  spelled_each : (spell : A → List ℕ) → ((before : List A) (a : A) → (format before).spell a ≡ spell a) → (before xs : List A) → each_spelled format before xs ≡ flat_map spell xs
  spelled_each spell same before [] = refl
  spelled_each spell same before (a ∷ more) =
      ap (λ w. w ++ each_spelled format (before ++ a ∷ []) more) (same before a) ∙ ap (λ w. spell a ++ w) (spelled_each spell same (before ++ a ∷ []) more) ∙ sym (flat_map-cons spell a more)

-- ---- what they put

abbrev pub names_put : List (List ℕ) → List ℕ
names_put names = to_be_bytes w32 (length names) ++ flat_map text.spell names

abbrev pub grades_put : List (List ℕ) → List Categories → List ℕ
grades_put names sets = to_be_bytes w32 (length (zipped names sets)) ++ flat_map (sensitivity 0 []).spell (zipped names sets)

categories_spelled : (names : List (List ℕ)) → names_put names ≡ categories.spell names
categories_spelled names = ap (λ w. to_be_bytes w32 (length names) ++ w) (sym (spelled_each new_name text.spell (λ before a. refl) [] names))

grades_spelled : (count : ℕ) (names : List (List ℕ)) (sets : List Categories) → grades_put names sets ≡ (sensitivities count).spell (names, sets)
grades_spelled count names sets =
    ap (λ w. to_be_bytes w32 (length (zipped names sets)) ++ w) (sym (spelled_each (sensitivity count) (sensitivity 0 []).spell (λ before a. refl) [] (zipped names sets)))

-- how many categories there are and which are permitted does not matter to the bytes of users
users_spelled : (on : Bool) (count : ℕ) (sets : List Categories) (names : List (List ℕ)) (ranges : List Range) → (users on 0 []).spell (names, ranges) ≡ (users on count sets).spell (names, ranges)
users_spelled true count sets names ranges = refl
users_spelled false count sets names ranges = refl

-- five parts, one behind the other
joined : (old o1 o2 o3 o4 o5 a b c d e : List ℕ) → o1 ≡ old ++ a → o2 ≡ o1 ++ b → o3 ≡ o2 ++ c → o4 ≡ o3 ++ d → o5 ≡ o4 ++ e → o5 ≡ old ++ ((a ++ b) ++ ((c ++ d) ++ e))
joined old o1 o2 o3 o4 o5 a b c d e p1 p2 p3 p4 p5 =
    let e2 : o2 ≡ old ++ (a ++ b) = p2 ∙ ap (λ w. w ++ b) p1 ∙ append_assoc old a b in
    let e4 : o4 ≡ o2 ++ (c ++ d) = p4 ∙ ap (λ w. w ++ d) p3 ∙ append_assoc o2 c d in
    let e5 : o5 ≡ o2 ++ ((c ++ d) ++ e) = p5 ∙ ap (λ w. w ++ e) e4 ∙ append_assoc o2 (c ++ d) e in
    e5 ∙ ap (λ w. w ++ ((c ++ d) ++ e)) e2 ∙ append_assoc old (a ++ b) ((c ++ d) ++ e)

-- all five sections are put
pub labels_put : (on : Bool) (t : LabelNames) (old o1 o2 o3 o4 o5 : List ℕ) → o1 ≡ old ++ names_put t.levels.categories → o2 ≡ o1 ++ (aliases []).spell t.levels.category_aliases
    → o3 ≡ o2 ++ grades_put t.levels.sensitivities t.levels.permitted → o4 ≡ o3 ++ (aliases []).spell t.levels.sensitivity_aliases → o5 ≡ o4 ++ (users on 0 []).spell (t.users, t.levels.users)
    → o5 ≡ old ++ (labels on).spell t
unfolding labels
labels_put on t old o1 o2 o3 o4 o5 p1 p2 p3 p4 p5 =
    let count = length t.levels.categories in
    joined old o1 o2 o3 o4 o5 (categories.spell t.levels.categories) ((aliases []).spell t.levels.category_aliases)
    ((sensitivities count).spell (t.levels.sensitivities, t.levels.permitted)) ((aliases []).spell t.levels.sensitivity_aliases) ((users on count t.levels.permitted).spell (t.users, t.levels.users))
    (p1 ∙ ap (λ w. old ++ w) (categories_spelled t.levels.categories)) p2
    (p3 ∙ ap (λ w. o2 ++ w) (grades_spelled count t.levels.sensitivities t.levels.permitted)) p4
    (p5 ∙ ap (λ w. o4 ++ w) (users_spelled on count t.levels.permitted t.users t.levels.users))

-- what follows from what was put last
pub put_last : {P Q : Type 0} (r : Result (Unit {0}) NoMemory) → (P → Q) → OnOk r P → OnOk r Q
put_last (Ok u) says p = says p
put_last (Err e) says p = tt
