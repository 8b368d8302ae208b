-- The client's page of the visits (specs/VisitsPage.antt) holds. Assumes nothing.
use Rattle.std.specs.Prelude.{◌≡◌, List, ℕ, ◌≤◌, ◌<◌}
use Rattle.std.proofs.Common.{sym, ap, ◌∙◌}
use Rattle.sets.specs.Set.{only, puts, size}
use Rattle.sets.specs.Rising.{members}
use Rattle.sets.proofs.laws.Rising.{in_members, members_rise, length_members}
use Rattle.lists.specs.Visit.{visits}
use Rattle.endian.specs.laws.Le.{Bytes}
use Rattle.network.specs.declared.Network.{Network}
use Rattle.network.specs.Network.{peer, message, known_of, topic_of}
use Rattle.network.specs.laws.Listing.{listed_rows}
use Rattle.floodnet.specs.Forward.{moved, receivers, forwarded}
use Rattle.floodnet.specs.laws.DeliveryLaws.{forwarded_visits, receivers_asked, asked_few}
use Rattle.engine.specs.declared.Forwarded.{Forwarded}
use Rattle.engine.specs.Alone.{forward_of, Gives}
use Rattle.pages.specs.RunPage.{net_in, table_in}
use Rattle.pages.specs.laws.AcceptedForward.{Accepted, forward_accepted, sized}
use Rattle.pages.specs.VisitsPage.{VisitsPage}

-- what the visits of an accepted forward make of the pending messages
visited : {s t : List ℕ} {p m : ℕ} → Accepted s t p m
    → (forwarded (net_in s) (table_in t) (peer p) (message m)).pending
    ≡ visits (λ q. puts (only m)) (members 32 (receivers (net_in s) (table_in t) (peer p) (message m))) (moved (net_in s) (peer p) (message m)).pending
visited {s} {t} {p} {m} a = ap (λ (x : Network). x.pending) (forwarded_visits a.before.shaped (table_in t) (peer p) (message m))

-- how many are asked, and how many get it
asked : {s t : List ℕ} {p m : ℕ} → Accepted s t p m
    → (size (receivers (net_in s) (table_in t) (peer p) (message m)) ≤ size (known_of (net_in s) (peer p) (topic_of (table_in t) (message m))))
    × (size (known_of (net_in s) (peer p) (topic_of (table_in t) (message m))) < size (net_in s).present)
asked {s} {t} {p} {m} a =
    (receivers_asked (net_in s) (table_in t) (peer p) (message m), asked_few a.before (peer p) (topic_of (table_in t) (message m)) a.peer_fits ((listed_rows t).topics_fit m) a.met.0)

-- THE THEOREM: whatever bytes are lent, every outcome that satisfies the promise of `relay_forward` meets the page.
pub visits_page : (s t : List ℕ) (p m : ℕ) → Bytes s → (r : Forwarded) (s' : List ℕ) → Gives r s' (forward_of s t p m) → VisitsPage s t p m r s'
visits_page s t p m h r s' g =
    let x = sized s t p m h in
    let a = forward_accepted s t p m h in
    rw (g.0, g.1)
    (record {
      who = λ q. in_members 32 _ q x.1;
      rising = members_rise 32 _;
      many = length_members 32 _ x.1 ∙ sym x.0;
      made = λ z. rw ((a z).held, (a z).answer) (visited (a z));
      few = λ z. rw (a z).answer (asked (a z));
    })
