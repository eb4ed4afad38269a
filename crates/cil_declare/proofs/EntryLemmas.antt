-- The entries of runs, one after another.
use Rattle.std.proofs.Common.{◌≡◌, ◌↔◌, ℕ, ◌+◌, ◌<◌, ◌≤◌, Bool, true, false, List, [], ◌∷◌, ◌++◌, map, length, take, get_or, refl, sym, ◌∙◌, ap}
use Rattle.std.proofs.lemmas.List.{append-nil, map-append, take_all, take_more}
use Rattle.std.specs.Global.{Vec}
use Rattle.cil_macros.specs.Items.{Kept}
use Rattle.cil_names.specs.declared.entry.Entry.{Entry}
use Rattle.cil_declare.specs.declared.row.Row.{Row}
use Rattle.cil_declare.specs.declared.run.Run.{Run}
use Rattle.cil_declare.specs.Rows.{round_at}
use Rattle.cil_declare.specs.Runs.{entry_of_run, has_none, is_always, listed_unless, rounds_by, said_by}

abbrev pub lists_of_rounds : List (Vec ℕ) → List (List ℕ)
lists_of_rounds rounds = map (λ (round : Vec ℕ). round.items) rounds

-- a list is told to be empty where it is
pub none_told : (xs : List ℕ) (b : Bool) → ((b ≡ true) ↔ (xs ≡ [])) → b ≡ has_none xs
none_told [] true e = refl
none_told [] false e = e.1 refl
none_told (x ∷ xs) true e = absurd (let f : x ∷ xs ≡ [] = e.0 refl in cc)
none_told (x ∷ xs) false e = refl

module _ (kept : Kept) (r : Row) where
  pub no_round : (rounds : List (Vec ℕ)) (always : Bool) → always ≡ is_always kept r → always ≡ true → lists_of_rounds rounds ≡ lists_of_rounds rounds ++ rounds_by kept r
  unfolding rounds_by
  no_round rounds always told is =
      sym (ap (λ b. lists_of_rounds rounds ++ listed_unless b (round_at kept r.at)) (sym told ∙ is) ∙ append-nil (lists_of_rounds rounds))

  pub one_round : (old new : List (Vec ℕ)) (v : Vec ℕ) (always : Bool) (round : List ℕ) → always ≡ is_always kept r → always ≡ false → round ≡ round_at kept r.at
      → v.items ≡ round → new ≡ old ++ v ∷ [] → lists_of_rounds new ≡ lists_of_rounds old ++ rounds_by kept r
  unfolding rounds_by
  one_round old new v always round told is from copied push =
      ap lists_of_rounds push
      ∙ map-append (λ (w : Vec ℕ). w.items) old (v ∷ [])
      ∙ ap (λ z. lists_of_rounds old ++ z ∷ []) (copied ∙ from)
      ∙ sym (ap (λ b. lists_of_rounds old ++ listed_unless b (round_at kept r.at)) (sym told ∙ is))

pub said_more : (kept : Kept) (runs : List Run) (i : ℕ) (run : Run) (e : Entry) (old new : List Entry) → i < length runs → run ≡ get_or runs i run
    → map said_by old ≡ map (entry_of_run kept) (take i runs) → new ≡ old ++ e ∷ [] → said_by e ≡ entry_of_run kept run → map said_by new ≡ map (entry_of_run kept) (take (i + 1) runs)
said_more kept runs i run e old new within is was push says =
    ap (map said_by) push
    ∙ map-append said_by old (e ∷ [])
    ∙ ap (λ z. z ++ said_by e ∷ []) was
    ∙ ap (λ z. map (entry_of_run kept) (take i runs) ++ z ∷ []) says
    ∙ sym (ap (map (entry_of_run kept)) (take_more runs i run within ∙ ap (λ z. take i runs ++ z ∷ []) (sym is)) ∙ map-append (entry_of_run kept) (take i runs) (run ∷ []))

pub said_all : (kept : Kept) (runs : List Run) (i : ℕ) (new : List Entry) → map said_by new ≡ map (entry_of_run kept) (take i runs) → length runs ≤ i → map said_by new ≡ map (entry_of_run kept) runs
said_all kept runs i new is over = is ∙ ap (map (entry_of_run kept)) (take_all i runs over)
