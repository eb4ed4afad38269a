-- What a text stands for: lists of words, strings and lists, each with its place.
-- CIL Reference Guide, "CIL Information": statements are lists in brackets.
use Rattle.std.specs.Prelude.{ℕ, ◌<◌, ◌≤◌, List, [], ◌∷◌}
use Rattle.cil_sexpr.specs.declared.node.Span.{Span}

mutual
  -- A word or a string has its bytes beside its place, a list has its items.
  pub data Node : Type 0 where
    Word : (place : Span) (bytes : List ℕ) → Node
    Quoted : (place : Span) (bytes : List ℕ) → Node
    Branch : (place : Span) (inner : Nodes) → Node

  pub data Nodes : Type 0 where
    none : Nodes
    next : Node → Nodes → Nodes

-- where a node stands
abbrev pub span_of : Node → Span
span_of (Word place bytes) = place
span_of (Quoted place bytes) = place
span_of (Branch place inner) = place

-- the items of a list
abbrev pub inner_of : Node → Nodes
inner_of (Word place bytes) = none
inner_of (Quoted place bytes) = none
inner_of (Branch place inner) = inner

-- a list of nodes, and then more
abbrev pub followed : List Node → Nodes → Nodes
followed [] more = more
followed (n ∷ ns) more = next n (followed ns more)

-- the node is one of them, or lies in one of them
pub data Lies : Node → Nodes → Type 0 where
  here : {n : Node} {ns : Nodes} → Lies n (next n ns)
  inside : {n m : Node} {ns : Nodes} → Lies n (inner_of m) → Lies n (next m ns)
  later : {n m : Node} {ns : Nodes} → Lies n ns → Lies n (next m ns)

abbrev mutual
  -- the node lies between two places, and so do its items
  pub IsBetween : ℕ → ℕ → Node → Type 0
  IsBetween from to (Word place bytes) = (from ≤ place.start) × (place.start < place.end) × (place.end ≤ to)
  IsBetween from to (Quoted place bytes) = (from ≤ place.start) × (place.start < place.end) × (place.end ≤ to)
  IsBetween from to (Branch place inner) =
      (from ≤ place.start) × (place.start < place.end) × (place.end ≤ to) × AreInOrder place.start place.end inner

  -- the nodes stand one after another between two places
  pub AreInOrder : ℕ → ℕ → Nodes → Type 0
  AreInOrder from to none = from ≤ to
  AreInOrder from to (next n ns) = IsBetween from to n × AreInOrder (span_of n).end to ns
