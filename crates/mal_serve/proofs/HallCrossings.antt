-- The hall of a live service is shared by its parts, and its passes go from one to another.
use denote.RattleType.{RattleType}
use denote.Struct.Declared.{shape}
use denote.Param.Send.{IsSend, IsSync, recorded_sync, struct_sync, sendable}
use Rattle.std.proofs.Crossing.{crosses}
use Rattle.atomic_table.proofs.shared.Seat.TheSendSync as seat
use Rattle.mal_hall.specs.contracts.hall.Hall as Hall
use Rattle.mal_hall.proofs.hall.Hall.TheSendSync as hall
use Rattle.mal_hall.specs.declared.size.Size as Size
use Rattle.mal_live.specs.contracts.signals.Signals as Signals
use Rattle.mal_serve.specs.contracts.hall.LiveHall as LiveHall
use Rattle.mal_service.specs.Entries.{noted_in}
use Rattle.mal_service.specs.Record.{StandsFor}
use Rattle.mal_service.specs.contracts.entry.Entry as Entry
use Rattle.mal_service.specs.contracts.noted.NotedHall as NotedHall
use Rattle.mal_service.specs.contracts.service.Service as Service
use Rattle.mal_turn.specs.contracts.table.TokenOf as TokenOf
use Rattle.mal_turn.proofs.table.Turn.TheSendSync as turn

hall-send : IsSend Hall.the_row
hall-send = hall.the_send

entry-send : IsSend Entry.the_row
entry-send = search (sendable, crosses) depth 60

signals-sync : IsSync Signals.the_field.row
signals-sync = search (sendable, crosses) depth 60

module _ (S : RattleType) (g : Size.Ghosts S.Denot) where
  noted-send : IsSend S → IsSend (NotedHall.the_row S g)
  noted-send s = search (hall-send, entry-send, sendable, crosses) depth 40

  pub pass-send : IsSend S → IsSend (TokenOf.the_row (NotedHall.the_row S g) Entry.the_row)
  pass-send s = search (noted-send, seat.the_send, sendable, crosses) depth 40

  service-sync : IsSend S → IsSync (Service.the_field S g).row
  service-sync s = struct_sync (shape (Service.the_type S g)) (turn.the_field_sync (NotedHall.the_row S g) Entry.the_row (record { stands = λ x log. StandsFor g.workers x.hall.events log; last = λ x. noted_in x.noted }) (noted-send s), tt)

  pub live_hall-sync : IsSend S → IsSync (LiveHall.the_row S g)
  live_hall-sync s = recorded_sync _ _ _ (LiveHall.the_type S g).to_one (struct_sync (shape (LiveHall.the_type S g)) (service-sync s, (signals-sync, tt)))
