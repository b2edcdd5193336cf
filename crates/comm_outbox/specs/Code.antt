-- What contracts see of the two sides as values that give it back, by which a proof tells them apart.
use Rattle.std.specs.Prelude.{ℕ, List, refl}
use Rattle.std.specs.Coded.{Coded, code_by, coded×, coded_ℕ, coded_list}
use Rattle.atomic_table.specs.Seated.{TableId, table_id_coded}
use Rattle.comm_core.specs.declared.entry.Entry.{Entry}
use Rattle.comm_core.specs.contracts.entry.Entry as entry
use Rattle.comm_outbox.specs.Sides.{OutboxView, PublisherView}

abbrev pub publisher_code : Coded PublisherView
publisher_code =
    code_by (TableId × (ℕ × (ℕ × List Entry)))
    (coded× table_id_coded (coded× coded_ℕ (coded× coded_ℕ (coded_list entry.the_row.coded))))
    (λ t. (t.queue, (t.clients, (t.comms, t.taken))))
    (λ p. record { queue = p.0; clients = p.1.0; comms = p.1.1.0; taken = p.1.1.1 }) (λ _. refl)

abbrev pub outbox_code : Coded OutboxView
outbox_code =
    code_by (TableId × (ℕ × (ℕ × (ℕ × (ℕ × List Entry)))))
    (coded× table_id_coded
    (coded× coded_ℕ (coded× coded_ℕ (coded× coded_ℕ (coded× coded_ℕ (coded_list entry.the_row.coded))))))
    (λ o. (o.queue, (o.clients, (o.comms, (o.places, (o.room, o.puts))))))
    (λ p. record {
      queue = p.0;
      clients = p.1.0;
      comms = p.1.1.0;
      places = p.1.1.1.0;
      room = p.1.1.1.1.0;
      puts = p.1.1.1.1.1;
    })
    (λ _. refl)
