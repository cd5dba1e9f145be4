-- A store seen the other way round is bounded too.
use Rattle.std.proofs.Common.{ap}
use Rattle.stores.specs.Meaning.{Meaning, Bounded, other}
use Rattle.stores.specs.Exchange.{exchanged}

pub exchanged_bounded : (m : Meaning) → Bounded m → Bounded (exchanged m)
exchanged_bounded m k = record {
  few_buses = k.few_posts;
  few_posts = k.few_buses;
  no_bus = λ b p h. ap other (k.no_post p b h);
  no_post = λ b p h. ap other (k.no_bus p b h);
}
