pub mod FirstFault
pub mod Printer
pub mod Printable
