-- The stops of the calls below, as stops of a command (own).
use Rattle.cm_command.specs.declared.read.CommandStop.{CommandStop}
use Rattle.cm_command.specs.declared.read.CommandStop.TheVariants as command_stop
use Rattle.cm_image.specs.declared.stored.ImageStop.{ImageStop}
use Rattle.cm_image.specs.declared.stored.ImageStop.TheVariants as image_stop
use Rattle.cm_image.specs.declared.stored.ImageWriteStop.{ImageWriteStop}
use Rattle.cm_image.specs.declared.stored.ImageWriteStop.TheVariants as write_stop
use Rattle.cm_script.specs.declared.stop.ScriptStop.{ScriptStop}
use Rattle.cm_script.specs.declared.stop.ScriptStop.TheVariants as script_stop
use Rattle.chronmap.specs.declared.source.ReadStop.{ReadStop}
use Rattle.chronmap.specs.declared.source.ReadStop.TheVariants as read_stop
use Rattle.chronmap.specs.declared.stop.Stop.{Stop}
use Rattle.chronmap.specs.declared.stop.Stop.TheVariants as stop

abbrev pub stop_of_command : CommandStop → Stop
stop_of_command command_stop.Usage = stop.Usage
stop_of_command command_stop.NoMemory = stop.NoMemory

abbrev pub stop_of_image : ImageStop → Stop
stop_of_image image_stop.Missing = stop.Missing
stop_of_image (image_stop.Refused why) = stop.NotImage why
stop_of_image image_stop.Fault = stop.VaultFault
stop_of_image image_stop.NoMemory = stop.NoMemory

abbrev pub stop_of_write : ImageWriteStop → Stop
stop_of_write write_stop.Fault = stop.VaultFault
stop_of_write write_stop.NoMemory = stop.NoMemory

abbrev pub stop_of_read : ReadStop → Stop
stop_of_read read_stop.Fault = stop.ReadFault
stop_of_read read_stop.NoMemory = stop.NoMemory

abbrev pub stop_of_script : ScriptStop → Stop
stop_of_script script_stop.TooLong = stop.TooLong
stop_of_script (script_stop.Refused line cause) = stop.Refused line cause
stop_of_script script_stop.NoMemory = stop.NoMemory
