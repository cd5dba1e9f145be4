-- Chains of a network, and leads turned around: one, or all of a chain.
use Rattle.std.specs.Prelude.{◌≡◌, ℕ, Bool, true, false, cond, not, ◌&&◌, ◌||◌, List, [], ◌∷◌, ◌==◌, ◌≢◌}
use Rattle.blocks.specs.Networks.{Leads}

-- x is none of these
abbrev pub NoneOf : ℕ → List ℕ → Type 0
NoneOf x [] = Unit {0}
NoneOf x (v ∷ vs) = (x ≢ v) × NoneOf x vs

-- A chain is a list of one or more distinct nodes, each leading to the next: x, and then these.
abbrev pub Chain : Leads → ℕ → List ℕ → Type 0
Chain leads x [] = Unit {0}
Chain leads x (y ∷ vs) = (leads x y ≡ true) × NoneOf x (y ∷ vs) × Chain leads y vs

-- the last node of a chain
abbrev pub end : ℕ → List ℕ → ℕ
end x [] = x
end x (y ∷ vs) = end y vs

-- whether b comes right after a in a chain
abbrev pub next_in : ℕ → List ℕ → ℕ → ℕ → Bool
next_in x [] a b = false
next_in x (y ∷ vs) a b = (a == x && b == y) || next_in y vs a b

-- the lead from x to y, turned
abbrev pub turn : ℕ → ℕ → Leads → Leads
turn x y leads a b = cond (a == x && b == y) false (cond (a == y && b == x) true (leads a b))

-- every lead of a chain, turned
abbrev pub turned : ℕ → List ℕ → Leads → Leads
turned x [] leads = leads
turned x (y ∷ vs) leads = turned y vs (turn x y leads)

-- one lead more
abbrev pub with_lead : ℕ → ℕ → Leads → Leads
with_lead x y leads a b = (a == x && b == y) || leads a b

-- one lead less
abbrev pub without_lead : ℕ → ℕ → Leads → Leads
without_lead x y leads a b = not (a == x && b == y) && leads a b
