-- The port of 127.0.0.1 that a book is served at.
use Rattle.std.specs.Prelude.{◌≡◌, ◌≢◌, ⊤, ℕ, List, [], ◌∷◌, ◌++◌, Option, Some, None, Result, Ok, Err, IfSome, codes}
use Rattle.std.specs.Fmt.{decimal}
use Rattle.std.specs.Net.Addr.{ipv4_octets}
use Rattle.std.specs.Net.Socket.{socket_ip, socket_port, v4_ip, v4_port}
use Rattle.std.specs.declared.net.ip_addr.IpAddr.TheVariants as ip
use Rattle.std.specs.declared.net.socket_addr.SocketAddr.{SocketAddr}
use Rattle.std.specs.declared.net.socket_addr.SocketAddrV4.{SocketAddrV4}
use Rattle.std.specs.declared.net.tcp.TcpListener.{TcpListener}
use Rattle.ob_base.specs.declared.stop.Stop.{Stop}
use Rattle.ob_base.specs.declared.stop.Stop.TheVariants.{Fault}
use Rattle.ob_base.specs.declared.stop.Fault.TheVariants.{OutOfMemory, Input, Output}
use Rattle.ob_stream.specs.declared.watched.Watched.{Watched}
use Rattle.ob_jobs.specs.Telling.{FailsToWrite, Writes}

-- 127.0.0.1 with this port
pub record IsLocal (address : SocketAddrV4) (port : ℕ) : Type 0 where
  pub octets : ipv4_octets (v4_ip address) ≡ 127 ∷ 0 ∷ 0 ∷ 1 ∷ []
  pub at : v4_port address ≡ port

-- the port of the address that the system gave, which is the one asked for, or has a free port where port 0 was asked for
pub record IsGiven (asked : SocketAddrV4) (given : SocketAddr) (port : ℕ) : Type 0 where
  pub address : socket_ip given ≡ ip.V4 (v4_ip asked)
  pub at : socket_port given ≡ port
  pub same : v4_port asked ≢ 0 → port ≡ v4_port asked

-- a listener was bound, and the system gave the address that was asked for; or none was
abbrev pub BindsAt : {A : Type 0} → A → SocketAddrV4 → Option (TcpListener × ℕ) → A → Type 0
BindsAt old asked result new = (new ≡ old) × IfSome result (λ bound. (given : SocketAddr) × IsGiven asked given bound.1)

-- the line that tells the port
abbrev pub port_line : ℕ → List ℕ
port_line port = codes "listening 127.0.0.1:" ++ (decimal port ++ codes "\n")

module _ {W : Type 0} (contents : W → Option (List ℕ)) where
  -- the line of a port is written; or the writer failed on it, or memory for it was refused
  abbrev pub TellsPort : Watched W → Watched W → ℕ → Result ⊤ Stop → Type 0
  TellsPort old new port (Ok done) = Writes contents old new (port_line port)
  TellsPort old new port (Err (Fault Output)) = FailsToWrite contents old new (port_line port)
  TellsPort old new port (Err (Fault OutOfMemory)) = new ≡ old
  TellsPort old new port (Err stop) = ⊥

  -- the listener that was bound, once the line of its own port is written; or that could not be; or none was bound
  abbrev pub IsPortTaken : {L : Type 0} → Option (L × ℕ) → Watched W → Watched W → Result L Stop → Type 0
  IsPortTaken None old new result = (result ≡ Err (Fault Input)) × (new ≡ old)
  IsPortTaken (Some bound) old new (Ok taken) = (taken ≡ bound.0) × TellsPort old new bound.1 (Ok tt)
  IsPortTaken (Some bound) old new (Err stop) = TellsPort old new bound.1 (Err stop)

  -- 127.0.0.1 was bound with this port, and no other address
  abbrev pub TakesPort : {B L : Type 0} → (B → SocketAddrV4 → Option (L × ℕ) → B → Type 0) → B → ℕ → Watched W → Result L Stop → B → Watched W → Type 0
  TakesPort {B} {L} binds old port before result new after =
      (address : SocketAddrV4) × (bound : Option (L × ℕ)) × IsLocal address port × binds old address bound new
      × IsPortTaken bound before after result
