-- The client's page of the receivers (specs/ReceiversPage.antt) holds. Assumes nothing.
use Rattle.std.proofs.Common.{◌∙◌}
use Rattle.std.specs.Prelude.{List, ℕ}
use Rattle.sets.proofs.laws.Counts.{size_count}
use Rattle.endian.specs.laws.Le.{Bytes}
use Rattle.network.specs.Network.{peer, message}
use Rattle.network.specs.laws.Listing.{listed_rows}
use Rattle.floodnet.specs.Forward.{forwarded, receivers}
use Rattle.floodnet.specs.Step.{refusal, effect, receivers_of}
use Rattle.transitions.specs.Receivers.{Receives}
use Rattle.transitions.specs.laws.PageLaws.{floodnet_page}
use Rattle.engine.specs.declared.Forwarded.{Forwarded}
use Rattle.engine.specs.Alone.{forward_of, Gives}
use Rattle.pages.specs.RunPage.{net_in, table_in}
use Rattle.pages.specs.laws.AcceptedForward.{Accepted, forward_accepted, sized}
use Rattle.pages.specs.laws.UntouchedPage.{untouched_page}
use Rattle.pages.specs.ReceiversPage.{ReceiversPage}

-- who receives an accepted forward
receives : {s t : List ℕ} {p m : ℕ} → Accepted s t p m
    → Receives (net_in s) (forwarded (net_in s) (table_in t) (peer p) (message m)) (table_in t) (peer p) (message m) (receivers (net_in s) (table_in t) (peer p) (message m))
unfolding refusal effect receivers_of
receives {s} {t} {p} {m} a = (((floodnet_page a.before (listed_rows t)).forward (peer p) (message m) a.peer_fits a.message_fits).does a.right).receives

-- THE THEOREM: whatever bytes are lent, every outcome that satisfies the promise of `relay_forward` meets the page.
pub receivers_page : (s t : List ℕ) (p m : ℕ) → Bytes s → (r : Forwarded) (s' : List ℕ) → Gives r s' (forward_of s t p m) → ReceiversPage s t p m r s'
receivers_page s t p m h r s' g =
    let x = sized s t p m h in
    let a = forward_accepted s t p m h in
    rw (g.0, g.1)
    (record {
      size_of = x.0;
      counted = x.0 ∙ size_count 32 _ x.1;
      refused = (untouched_page s t).forward p m;
      sound = λ z. ((a z).before, rw (a z).held (a z).after);
      accepted = λ z. rw ((a z).held, (a z).answer) (receives (a z));
    })
