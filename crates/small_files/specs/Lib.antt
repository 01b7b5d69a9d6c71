-- The file of a serial number, and what is shown of it. Each definition sets out words of document 02's W-212.
pub mod Serial
pub mod OneSerial
