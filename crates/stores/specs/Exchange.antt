-- A store seen the other way round: its buses are posts, its posts are buses, and the sides change with them.
use Rattle.stores.specs.declared.faults.StoreFault.{StoreFault}
use Rattle.stores.specs.declared.faults.StoreFault.TheVariants.{NoBus, NoPost, Stands, Absent, Full}
use Rattle.stores.specs.declared.pairs.Pair.{Pair}
use Rattle.stores.specs.declared.pairs.Side.{Side}
use Rattle.stores.specs.declared.pairs.Side.TheVariants.{Bus, Post}
use Rattle.stores.specs.Meaning.{Meaning, other}

abbrev pub exchanged : Meaning → Meaning
exchanged m = record {
  buses = m.posts;
  posts = m.buses;
  standing = λ b p. other (m.standing p b);
}

-- the side on the other end
abbrev pub facing : Side → Side
facing Bus = Post
facing Post = Bus

-- the pair the other way round
abbrev pub swapped : Pair → Pair
swapped q = record { bus = q.post; post = q.bus }

-- a fault in the numbers of the other way round: no such bus is no such post, and the two that were named change places
abbrev pub faced : StoreFault → StoreFault
faced (NoBus q) = NoPost (swapped q)
faced (NoPost q) = NoBus (swapped q)
faced (Stands q) = Stands (swapped q)
faced (Absent q) = Absent (swapped q)
faced (Full q) = Full (swapped q)
